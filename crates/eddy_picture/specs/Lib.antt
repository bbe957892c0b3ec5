pub mod Percent
pub mod Figures
