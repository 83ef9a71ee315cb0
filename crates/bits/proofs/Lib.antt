pub mod Digits
pub mod Pieces
pub mod Turns
pub mod Laws
pub mod Trips
pub mod Twos
pub mod Counting
