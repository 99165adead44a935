pub mod Host
pub mod Judgement
pub mod Options
