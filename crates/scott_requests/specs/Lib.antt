pub mod Parts
pub mod Settings
pub mod Request
pub mod Views
