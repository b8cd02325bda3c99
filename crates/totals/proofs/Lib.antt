pub mod Trees
pub mod Refusing
pub mod Actions
pub mod Fitting
pub mod Expanded
pub mod Conserving
pub mod Shapes
