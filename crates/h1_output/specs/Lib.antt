pub mod Queued
pub mod OutputPieces
