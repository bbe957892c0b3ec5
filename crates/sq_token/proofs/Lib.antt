pub mod FormLemmas
pub mod PieceLemmas
pub mod TokenLemmas
pub mod Marks
mod RunLemmas
mod FrontLemmas
mod LongestLemmas
