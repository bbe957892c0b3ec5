pub mod Shipped
pub mod Meaning
pub mod Registry
pub mod Signatures
pub mod ShippedSignatures
