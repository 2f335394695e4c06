pub mod Published
pub mod Addresses
pub mod Confirming
pub mod Delivering
pub mod Logins
pub mod Statuses
pub mod Numbers
