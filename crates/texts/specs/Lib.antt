-- Text in a buffer.
pub mod Texts
