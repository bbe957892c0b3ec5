pub mod NullLemmas
pub mod FirstLemmas
