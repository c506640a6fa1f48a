-- The lemmas of the stepper.
pub mod Joining
pub mod FirstPause
pub mod Led
pub mod OneRun
pub mod Showing
pub mod Stopping
pub mod Repeating
pub mod PauseLines
pub mod Telling
pub mod Examples
