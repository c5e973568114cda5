mod Addresses
mod FirstBegin
mod FirstHonest
mod FirstUser
