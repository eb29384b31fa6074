pub mod Agreed
pub mod Conversations
pub mod Lines
pub mod Pending
pub mod Settling
pub mod Talks
pub mod Texts
