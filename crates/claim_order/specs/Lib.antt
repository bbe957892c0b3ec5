pub mod Order
pub mod Listed
pub mod Claiming
pub mod Sampling
pub mod Drops
