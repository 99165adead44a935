pub mod Acceptor
pub mod Gate
pub mod Moments
pub mod Socket
