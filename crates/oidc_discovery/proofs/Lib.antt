pub mod Addresses
mod Apart
mod Judged
mod Needed
mod PinnedAlone
mod Slashes
mod Taken
