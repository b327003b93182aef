pub mod EarLaws
