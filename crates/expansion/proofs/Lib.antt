-- What the proofs of several functions, and of other crates, use.
pub mod Files
pub mod Actions
pub mod Transitions
pub mod Beginning
pub mod ExpandAnswers
