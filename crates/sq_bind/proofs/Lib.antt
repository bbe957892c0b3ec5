mod Walk
mod VisibleLemmas
mod FaultLemmas
mod OperandLemmas
pub mod ConditionLemmas
pub mod SplitLemmas
mod SelectLemmas
mod OrderLemmas
mod ColumnLemmas
mod SourceLemmas
mod MarkLemmas
mod ReachLemmas
mod HeldLemmas
mod OperandFits
mod TreeFits
mod SpanLemmas
mod RestFits
mod BlockFits
mod ShapeFits
mod SettledLemmas
pub mod ParsedLemmas
mod PartLemmas
mod OccursLemmas
mod FirstLemmas
pub mod AnswerLemmas
mod RepeatedLemmas
mod PlaceLemmas
