pub mod ListLemmas
pub mod KeyLemmas
pub mod LogLemmas
pub mod MatchLemmas
pub mod OwedLemmas
pub mod TruthLemmas
pub mod RouteLemmas
pub mod SoundLemmas
pub mod FaithfulLemmas
pub mod LegalLemmas
pub mod ChaseLemmas
pub mod ActLemmas
pub mod TraceLemmas
pub mod StepLemmas
pub mod ReachLemmas
pub mod HopLemmas
pub mod CountLemmas
pub mod ModuleLemmas
pub mod SharedLemmas
pub mod PermutationLemmas
pub mod TupleCounts
mod WorkedKeys
mod WorkedBands
