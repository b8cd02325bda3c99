-- One induction over actions, by the parts that they are made of; and what it says of a run.
pub mod Closure
pub mod Ends
