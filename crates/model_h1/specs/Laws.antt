-- Words that the laws alone use: who reads the definitions needs none of them.
pub mod Growth
pub mod Moved
pub mod Upgrade
pub mod WrittenFrame
pub mod FrameSize
pub mod Exchanges
pub mod ExampleTraces
pub mod Runs
