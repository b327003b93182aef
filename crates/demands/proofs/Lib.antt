pub mod Natural
pub mod Impostors
