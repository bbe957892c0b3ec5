pub mod HoldLemmas
pub mod CachedLemmas
