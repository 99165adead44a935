pub mod TracedLaws
