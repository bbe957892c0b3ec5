pub mod Ready
pub mod Wrote
pub mod Written
