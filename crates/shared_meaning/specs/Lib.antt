pub mod SharedLog
pub mod Places
pub mod SharedView
pub mod Settled
pub mod Closed
pub mod Answer
pub mod Numbers
