pub mod Calls
pub mod Cached
pub mod Kept
pub mod Latest
pub mod Store
