pub mod Asked
pub mod Outcome
pub mod Run
pub mod Lines
pub mod Shipped
pub mod Headline
pub mod Ending
