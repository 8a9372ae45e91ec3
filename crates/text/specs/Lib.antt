pub mod Written
pub mod Decimal
pub mod Line
pub mod Laws
pub mod Computed
