-- What the proofs of several functions, and of other crates, use.
pub mod Groups
pub mod Heads
pub mod Trees
pub mod Items
pub mod Layouts
pub mod Finding
pub mod Using
pub mod Kept
pub mod Calls
