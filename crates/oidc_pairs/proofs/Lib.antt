pub mod Theorems
mod Decoded
mod DecodedBytes
mod Escapes
mod FormTexts
mod Lookups
mod PlainTexts
mod TextBytes
mod Written
