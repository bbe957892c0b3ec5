pub mod ColumnLemmas
pub mod DecimalLemmas
pub mod FlatLemmas
pub mod NumeralLemmas
pub mod OrderLemmas
mod ReadBackLemmas
pub mod WritingLemmas
