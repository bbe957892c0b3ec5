pub mod HandLemmas
pub mod DealtLists
pub mod ClosingLists
pub mod ClosingLog
pub mod PlacedLemmas
pub mod EntryCounts
pub mod Crosses
