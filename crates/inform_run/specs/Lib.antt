pub mod Stops
pub mod Machines
pub mod Fitness
pub mod Runners
