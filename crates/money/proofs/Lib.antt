pub mod Shares
pub mod Spreads
pub mod Twelfths
