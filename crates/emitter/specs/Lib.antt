-- What writing the steps of accepted records asks and does, in the terms of document 01's expanding.
pub mod Steps
pub mod Writing
pub mod Transitions
