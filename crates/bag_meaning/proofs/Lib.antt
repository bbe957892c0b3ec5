pub mod ListLemmas
pub mod RangeLemmas
pub mod ProductLemmas
pub mod CreditLemmas
pub mod ProductRange
pub mod RisingLemmas
pub mod PairLemmas
pub mod AnswerLemmas
mod WorkedRows
pub mod SpanLemmas
pub mod NestedLemmas
pub mod AgreeLemmas
pub mod DueLemmas
pub mod InOrderLemmas
pub mod KeyLemmas
