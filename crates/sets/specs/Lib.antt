pub mod Set
pub mod Digits
pub mod Laws
