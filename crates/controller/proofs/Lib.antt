pub mod Counting
pub mod Inverse
pub mod Numbers
pub mod Reading
pub mod Writing
