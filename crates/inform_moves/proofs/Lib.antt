pub mod Immediate
pub mod AtOnce
pub mod Needing
pub mod MovesMean
pub mod Falling
pub mod Fitting
pub mod Running
