pub mod Jwk
pub mod Signing
pub mod Mac
pub mod CoreJwk
