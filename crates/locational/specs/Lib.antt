pub mod Prices
