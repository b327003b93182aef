pub mod Paper
pub mod Ears
pub mod Parents
pub mod ParentLaws
pub mod Reduction
