pub mod WordLemmas
pub mod Groups
pub mod MapLemmas
pub mod LeftOut
pub mod TargetLemmas
pub mod RequestLemmas
pub mod ReplyLemmas
pub mod EdgeTexts
