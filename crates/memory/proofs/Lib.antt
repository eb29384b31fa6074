pub mod Longest
pub mod Counting
pub mod Writing
pub mod RowSearches
pub mod Halves
pub mod Levels
pub mod TrieLaws
pub mod Exact
