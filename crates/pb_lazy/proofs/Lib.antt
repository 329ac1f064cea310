pub mod CallLemmas
pub mod CommandLemmas
pub mod LazyLemmas
pub mod ListLemmas
pub mod MeetLemmas
