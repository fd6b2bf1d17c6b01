pub mod Left
pub mod Scans
