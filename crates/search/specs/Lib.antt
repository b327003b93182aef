pub mod Apart
pub mod First
pub mod FirstLaws
pub mod FindLaws
