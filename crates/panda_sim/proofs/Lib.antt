pub mod Causes
pub mod Forms
pub mod LongInputs
pub mod MadeScripts
pub mod OneWord
pub mod TakenLemmas
pub mod Replaying
pub mod DoorLemmas
