pub mod Hands
pub mod Logged
