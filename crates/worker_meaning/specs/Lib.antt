pub mod View
pub mod Answers
pub mod Accounts
pub mod Close
pub mod Worker
