pub mod Stored
pub mod Sids
