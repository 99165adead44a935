pub mod Pieces
pub mod CamelCase
pub mod SizeLines
pub mod ByName
pub mod HeaderLines
pub mod HeadText
pub mod WrittenPieces
pub mod BodyText
pub mod AcceptText
pub mod RequestLines
mod Slashes
