mod BagLemmas
mod ConditionLemmas
mod NoteRows
mod ReadyLemmas
mod RemoteLemmas
