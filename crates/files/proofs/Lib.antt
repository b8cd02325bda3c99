-- What the proofs of several functions, and of other crates, use.
pub mod FieldLaws
pub mod TreeSteps
pub mod Steadies
pub mod MemberLaws
pub mod NameLaws
pub mod GroupLaws
pub mod TreeLaws
pub mod Faults
