-- What the proofs of several functions, and of other crates, use.
pub mod Parts
pub mod Readers
pub mod KindLaws
pub mod Inversion
pub mod ExpressionLaws
pub mod ExpressionKinds
pub mod StepCounts
pub mod StatementLaws
pub mod StatementKinds
pub mod BlockLaws
pub mod Anywhere
pub mod Faults
pub mod Accepts
pub mod Simples
pub mod Goods
pub mod GoodBlocks
