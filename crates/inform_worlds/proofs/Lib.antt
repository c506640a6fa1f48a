pub mod Tables
pub mod Slotted
pub mod ByNumber
pub mod Opening
