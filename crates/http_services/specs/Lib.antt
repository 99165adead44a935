pub mod ErrorResponse
pub mod Feeding
pub mod Lent
pub mod Payloads
pub mod Queue
pub mod Serving
pub mod Status
