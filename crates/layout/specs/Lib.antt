pub mod File
pub mod Layout
pub mod Numbers
pub mod Contents
pub mod ContentsLaws
