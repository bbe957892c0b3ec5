pub mod StageLemmas
pub mod DoingLemmas
pub mod GivenLemmas
pub mod FilesLemmas
pub mod AccessLemmas
pub mod BindingLemmas
pub mod PlanLemmas
pub mod HeadingLemmas
pub mod OpenLemmas
pub mod ReachLemmas
pub mod OnePlan
mod DemoTree
mod DemoReading
pub mod DemoBinding
