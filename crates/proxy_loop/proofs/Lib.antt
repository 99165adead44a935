pub mod Histories
pub mod Flows
