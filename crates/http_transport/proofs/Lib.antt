pub mod ReadOn
pub mod SendOn
