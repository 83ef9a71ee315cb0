pub mod Calendar
pub mod Instalments
pub mod Postage
pub mod Sharing
