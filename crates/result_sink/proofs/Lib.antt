pub mod TextLemmas
pub mod WroteLemmas
mod DecimalLaws
pub mod KeyLaws
mod OrderLaws
