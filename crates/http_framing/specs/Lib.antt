pub mod AnyPieces
pub mod Kinds
pub mod HeaderLines
