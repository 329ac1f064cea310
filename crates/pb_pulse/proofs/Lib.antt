pub mod CalmLemmas
pub mod HoldingLemmas
pub mod QueueLemmas
pub mod StillLemmas
pub mod TrainLemmas
