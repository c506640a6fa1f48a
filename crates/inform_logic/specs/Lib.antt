pub mod Stages
pub mod Leading
pub mod Holding
pub mod Stopping
pub mod Laws
pub mod Worked
pub mod WorkedRuns
