pub mod CallLemmas
pub mod CameLemmas
