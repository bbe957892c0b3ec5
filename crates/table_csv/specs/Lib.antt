pub mod Marks
pub mod Heading
pub mod Fields
pub mod TableFile
pub mod Headed
pub mod Reading
pub mod Work
