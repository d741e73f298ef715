pub mod Equality
pub mod Lists
pub mod Orders
pub mod Numbers
