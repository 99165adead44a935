pub mod Upgrade
pub mod Session
pub mod Answers
pub mod Causes
