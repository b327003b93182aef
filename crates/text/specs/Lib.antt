pub mod Words
pub mod Text
pub mod DecimalLaws
pub mod TableLaws
pub mod LineLaws
