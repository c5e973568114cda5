mod ReadSteps
mod Homes
mod OneHome
mod Passing
mod PartsKept
mod Entries
mod FieldsRule
mod FieldsBack
mod ClaimsBack
mod FloatFree
pub mod Theorems
