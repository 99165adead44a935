-- Words that the laws alone use: who reads the definitions needs none of them.
pub mod Growth
pub mod Moved
pub mod PaddedLines
