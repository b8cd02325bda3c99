-- Laws: those that the proofs of functions share, and those for callers.
pub mod Sums
pub mod Operators
pub mod Runs
pub mod Performing
pub mod Keeping
pub mod States
pub mod Calls
