-- What the check of a file answers, in the terms of document 01's reading.
pub mod FieldAnswers
pub mod Members
pub mod Trees
