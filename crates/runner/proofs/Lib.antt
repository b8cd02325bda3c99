-- Laws that the proofs of functions share.
pub mod Runs
pub mod Lent
pub mod Numbers
