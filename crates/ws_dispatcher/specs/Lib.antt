pub mod Queued
pub mod View
pub mod Steps
pub mod Polls
pub mod Order
