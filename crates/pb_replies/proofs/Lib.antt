pub mod ListedLemmas
pub mod NameLemmas
pub mod TableLemmas
