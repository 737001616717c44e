pub mod Report
pub mod Plant
pub mod Stops
pub mod Answers
