-- What the search goes by, in the terms of the rules' verdicts.
pub mod Standing
pub mod Searching
pub mod Caching
pub mod Plans
