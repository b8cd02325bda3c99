-- What is known of a file whose tree has been read.
pub mod Trees
pub mod Places
pub mod FoundAnswers
