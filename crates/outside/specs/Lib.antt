pub mod Files
pub mod Faults
pub mod Told
pub mod Sure
pub mod Chosen
pub mod Streams
pub mod Real
