pub mod WalkLemmas
pub mod SlotLemmas
pub mod PastLemmas
pub mod ReadLemmas
pub mod LineLemmas
pub mod MarkLemmas
pub mod LawLemmas
