pub mod RemainderLemmas
pub mod DeadlineLemmas
pub mod ClockLemmas
