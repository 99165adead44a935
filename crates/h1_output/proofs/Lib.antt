pub mod Laid
pub mod Moves
pub mod CopyLemmas
pub mod InOrder
pub mod Framed
pub mod Ends
