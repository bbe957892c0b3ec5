pub mod LookupLemmas
pub mod GroupLemmas
