pub mod Statements
pub mod Exchanged
pub mod Answered
