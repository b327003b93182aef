pub mod Rows
pub mod RowLaws
pub mod Sound
pub mod SoundLaws
pub mod Agreement
