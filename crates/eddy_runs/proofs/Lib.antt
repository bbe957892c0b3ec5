pub mod KeepLemmas
pub mod EndLemmas
pub mod GoingLemmas
pub mod JustifiedLemmas
pub mod ReachedLemmas
pub mod ToldLemmas
pub mod FollowLemmas
pub mod FollowedLemmas
pub mod FollowedEnd
pub mod WorkLemmas
pub mod AskableLemmas
mod WorkedScans
mod WorkedLookUps
