pub mod Traced
pub mod Outcomes
