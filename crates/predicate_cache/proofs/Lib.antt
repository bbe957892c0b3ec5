pub mod KeyLemmas
pub mod EntryLemmas
pub mod StepLemmas
pub mod LawLemmas
pub mod LatestLemmas
pub mod CallerLemmas
