pub mod TakenLaws
pub mod AnswerLaws
pub mod NumberLaws
pub mod RemoteLaws
pub mod TableLaws
pub mod AccessLaws
pub mod WithinLaws
