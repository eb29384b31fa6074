pub mod Keeping
pub mod Laws
pub mod Parting
pub mod Talking
pub mod ToRest
