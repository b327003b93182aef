pub mod Flat
pub mod FlatLaws
pub mod Theorems
