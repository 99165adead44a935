pub mod Hub
pub mod Room
pub mod Member
pub mod Seen
pub mod Turn
pub mod Due
pub mod Trace
pub mod Laws
