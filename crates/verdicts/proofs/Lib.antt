pub mod Exact
pub mod Order
pub mod Client
