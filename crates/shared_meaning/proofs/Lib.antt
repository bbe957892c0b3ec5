pub mod PlaceLemmas
pub mod ViewLemmas
pub mod PlacedLemmas
pub mod ActLemmas
pub mod CloseLemmas
pub mod LatestLemmas
pub mod NumberLemmas
pub mod UsedLemmas
