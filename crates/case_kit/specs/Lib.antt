pub mod Blocks
pub mod Listing
pub mod Tables
pub mod Ways
