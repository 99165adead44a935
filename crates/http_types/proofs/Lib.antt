mod RequestHeadEquality
mod TextLemmas
pub mod UriEquality
