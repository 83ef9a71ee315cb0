pub mod Limits
pub mod Reading
pub mod Rounds
pub mod Sending
