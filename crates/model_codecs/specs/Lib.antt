pub mod Acts
pub mod Given
pub mod Requests
pub mod Answers
pub mod Sent
pub mod Received
pub mod Heard
