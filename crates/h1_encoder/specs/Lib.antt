pub mod Meaning
pub mod WrittenLines
pub mod DateText
pub mod Encoding
pub mod Written
pub mod Pieces
pub mod RequestMeaning
pub mod RequestLines
