pub mod Escaping
pub mod Limiting
pub mod Fitting
