pub mod Changes
pub mod Grounds
pub mod Keyed
pub mod Laws
pub mod Models
pub mod Sound
