mod Jobs
pub mod Lives
pub mod Waiting
