pub mod FitRemotes
pub mod Ready
pub mod SampleBlocks
pub mod SampleConditions
pub mod SamplePredicates
