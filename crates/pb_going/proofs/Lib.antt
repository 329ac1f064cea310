pub mod AdvanceLemmas
pub mod BusLemmas
pub mod EventLemmas
pub mod JumpLemmas
pub mod RowLemmas
pub mod RunLemmas
pub mod StepLemmas
