pub mod Copied
pub mod Refusal
pub mod Turn
pub mod Events
pub mod Decided
