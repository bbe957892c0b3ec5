pub mod PlaceLemmas
pub mod CourseLemmas
pub mod LoadedLemmas
pub mod UnputLemmas
pub mod SoFarLemmas
