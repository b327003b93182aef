pub mod Reading
pub mod Files
pub mod Examples
pub mod Running
pub mod Joining
pub mod Natural
pub mod Paper
pub mod Impostors
