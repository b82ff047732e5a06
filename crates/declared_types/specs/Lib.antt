pub mod ImplicitNames
pub mod Resolving
pub mod Supertypes
pub mod Erasure
pub mod Signatures
