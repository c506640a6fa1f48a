pub mod Signatures
pub mod Soundness
pub mod Laws
