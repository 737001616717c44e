pub mod Algebra
pub mod Ranks
pub mod Greatest
pub mod Numbers
pub mod Fields
