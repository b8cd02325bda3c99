-- What the proofs of several functions use.
pub mod Events
pub mod Rulings
pub mod Lists
pub mod Positions
pub mod Caching
pub mod VerdictAnswers
pub mod Judges
pub mod Numbers
