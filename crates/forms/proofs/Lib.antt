pub mod Accepted
pub mod Units
pub mod Endings
pub mod Lookups
pub mod Simulation
pub mod Table
pub mod Decoding
pub mod Agreement
