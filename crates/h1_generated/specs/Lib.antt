pub mod Generated
pub mod Summary
pub mod GeneratedMeaning
pub mod Run
