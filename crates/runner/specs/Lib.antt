-- What the runs of a call ask for, and what it answers.
pub mod Transitions
pub mod Tables
pub mod CallAnswers
