pub mod House
pub mod Moves
pub mod Flow
