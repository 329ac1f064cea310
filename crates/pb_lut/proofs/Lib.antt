pub mod ExpressionLemmas
pub mod ReadingLemmas
pub mod FunctionLemmas
pub mod ComputedLemmas
