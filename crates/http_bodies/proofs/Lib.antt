pub mod Histories
pub mod Pieces
pub mod Wholes
