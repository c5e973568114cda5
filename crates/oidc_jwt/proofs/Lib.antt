mod PartsOf
mod Undotted
mod Encoded
mod Issued
mod HeaderBack
mod TokenBack
mod ReadBy
mod FloatFree
mod IssuedToken
pub mod Theorems
