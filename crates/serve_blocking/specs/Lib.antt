pub mod Acts
pub mod Fails
pub mod Judged
pub mod Limits
pub mod Pace
pub mod Served
