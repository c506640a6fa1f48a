pub mod Numbers
pub mod Routines
pub mod Texts
pub mod Tables
pub mod Items
pub mod Nouns
pub mod Laws
