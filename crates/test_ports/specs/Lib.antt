pub mod Computed
pub mod Systems
