-- Steps in lent words, what is looked up in them, and runs on them.
pub mod Tables
pub mod Entries
pub mod Words
pub mod Walkable
pub mod Runs
