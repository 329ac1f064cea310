pub mod DeadlineLemmas
pub mod EachLemmas
pub mod FieldLemmas
pub mod PackingLemmas
pub mod QuietLemmas
