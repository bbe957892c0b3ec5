pub mod Fitted
