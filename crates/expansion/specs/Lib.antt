-- What writing the expansion of a file does.
pub mod Writing
