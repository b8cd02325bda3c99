-- What the proofs of several functions, and of other crates, use.
pub mod Bounds
pub mod Words
pub mod Counts
pub mod Fits
pub mod Forms
pub mod Blocks
pub mod TransitionLaws
