pub mod Filled
pub mod Copied
pub mod Written
pub mod Mapped
