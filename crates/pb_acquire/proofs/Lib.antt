pub mod HeldLemmas
pub mod KeptLemmas
pub mod OrderLemmas
pub mod StreamLemmas
pub mod TakingLemmas
pub mod CutLemmas
pub mod EventLemmas
pub mod FindingLemmas
