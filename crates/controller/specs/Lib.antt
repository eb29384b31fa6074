pub mod Answers
pub mod Grounds
pub mod Records
