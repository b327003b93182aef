pub mod Run
pub mod RunLaws
pub mod SweepLaws
pub mod TurnLaws
pub mod Tests
pub mod Procedure
pub mod Trace
pub mod Pausing
