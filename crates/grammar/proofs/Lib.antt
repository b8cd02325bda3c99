pub mod Bytes
pub mod Readings
pub mod Keeping
pub mod Levels
pub mod Statements
pub mod Agreements
pub mod Small
pub mod Accepted
