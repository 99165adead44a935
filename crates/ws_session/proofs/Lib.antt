pub mod CheckLemmas
pub mod ValueLemmas
pub mod WordLemmas
pub mod SessionLemmas
pub mod OwnHead
