-- What the proofs of several functions, and of other crates, use.
pub mod Tables
pub mod Zeros
pub mod Shape
pub mod Places
pub mod Bounds
pub mod Indexes
pub mod Guards
pub mod Ends
pub mod Meeting
pub mod Moves
pub mod Walks
