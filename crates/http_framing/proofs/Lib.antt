pub mod AnyPieces
pub mod HeaderLines
