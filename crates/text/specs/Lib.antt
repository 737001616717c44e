pub mod Lines
pub mod Numerals
pub mod Printed
pub mod Faults
pub mod Format
pub mod Steps
