mod ReadFree
mod Found
mod Accepted
mod TokenTypes
mod IssuedAccepted
mod Causes
mod UserInfo
mod IssuedClaims
mod Judged
mod NeverMemory
mod RefreshedRows
mod RefreshedWhy
mod RefreshedJudged
pub mod Theorems
