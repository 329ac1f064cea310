pub mod ChoosingLemmas
pub mod NameLemmas
pub mod ScaledLemmas
pub mod PartLemmas
pub mod LineLemmas
pub mod ShowingLemmas
