pub mod Words
pub mod Edges
pub mod ForwardedMeaning
