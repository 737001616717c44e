pub mod Naming
pub mod Planning
pub mod Answering
