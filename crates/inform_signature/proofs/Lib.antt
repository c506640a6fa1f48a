pub mod Demanded
pub mod Sound
pub mod Elements
