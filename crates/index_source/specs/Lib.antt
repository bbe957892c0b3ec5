pub mod Rows
pub mod Groups
