pub mod WrittenLemmas
mod DeadlineLemmas
