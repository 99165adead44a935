pub mod History
pub mod Flow
