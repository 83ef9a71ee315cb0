pub mod Telling
pub mod Laying
pub mod Parting
