mod NumberLemmas
pub mod PageLemmas
mod PathLemmas
