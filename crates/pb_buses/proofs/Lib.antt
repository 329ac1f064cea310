pub mod ChangeLemmas
pub mod CoastLemmas
pub mod DelayLemmas
pub mod LineLemmas
pub mod NextChangeLemmas
pub mod RuleLemmas
pub mod WordLemmas
pub mod WrapLemmas
