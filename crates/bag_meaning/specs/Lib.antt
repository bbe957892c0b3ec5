pub mod Bag
pub mod Answer
pub mod Credit
pub mod Combination
pub mod Nested
