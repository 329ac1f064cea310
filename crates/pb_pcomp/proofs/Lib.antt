pub mod DeadlineLemmas
