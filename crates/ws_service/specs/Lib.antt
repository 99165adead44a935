pub mod View
pub mod Steps
pub mod Polls
pub mod Order
pub mod Traces
pub mod Causes
pub mod Stays
