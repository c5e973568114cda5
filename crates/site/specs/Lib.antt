-- In reading order: the types that the site brings to its logins; what a refresh rests on; its sessions.
pub mod Types
pub mod Tokens
pub mod Sessions
