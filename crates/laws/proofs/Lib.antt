-- Laws of what the definitions share: truth values and sums, what each entry has, lists of tests, tables, and the targets of sets.
pub mod Basics
pub mod Each
pub mod Tests
pub mod Choosing
pub mod Tables
pub mod Every
pub mod Targets
