pub mod Made
pub mod Fronts
pub mod Laws
pub mod Rehearsed
pub mod RoundTrip
pub mod Writing
