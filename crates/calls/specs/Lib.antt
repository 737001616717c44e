pub mod Script
pub mod Reads
pub mod Calls
