pub mod Ends
pub mod JobRuns
pub mod Jobs
pub mod Pace
pub mod Sources
pub mod Transports
