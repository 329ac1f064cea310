pub mod ServeLemmas
pub mod TextLemmas
pub mod WorkedLemmas
pub mod WordLemmas
