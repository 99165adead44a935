mod ShownLemmas
mod PackedLemmas
mod NamedLemmas
mod ServedLemmas
mod AskedLemmas
mod CalledLemmas
mod OpenLemmas
