-- The text of a stopped play, which of its lines is bad, how it is read, and the laws of that.
pub mod Numbers
pub mod Text
pub mod Bad
pub mod Reading
pub mod Laws
