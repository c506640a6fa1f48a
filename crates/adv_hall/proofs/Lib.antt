pub mod Speaking
pub mod Seating
pub mod Playing
pub mod GoingOn
pub mod Addresses
pub mod Numbers
