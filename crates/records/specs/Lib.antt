-- What the check of records answers, in the terms of document 01's reading.
pub mod Checking
pub mod Counting
pub mod Acceptance
pub mod Kinds
