pub mod Cuts
pub mod LocalOptions
pub mod Numbers
pub mod OptionRows
pub mod Ports
pub mod Reading
pub mod Taking
