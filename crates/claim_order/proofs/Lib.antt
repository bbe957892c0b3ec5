pub mod ListingLemmas
pub mod OwnLemmas
