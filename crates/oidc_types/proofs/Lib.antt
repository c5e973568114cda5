pub mod Theorems
mod Copies
mod Drawn
mod Entries
mod Unknown
