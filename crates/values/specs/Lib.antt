pub mod Values
pub mod FitLaws
pub mod PlaceLaws
pub mod AnswerLaws
pub mod Outcome
pub mod Theorems
