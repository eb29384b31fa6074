pub mod Counting
pub mod Lines
pub mod Planning
pub mod Words
