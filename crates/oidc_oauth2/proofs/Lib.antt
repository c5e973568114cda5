pub mod Runs
pub mod Theorems
mod AnswerRows
mod AnswerSteps
mod Bearers
mod Credentials
mod Cuts
mod FaultCounts
mod PairLists
