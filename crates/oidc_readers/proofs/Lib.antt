mod First
mod JsonValues
mod MomentExamples
mod NoFloat
mod Parts
mod ReadBack
mod Scans
pub mod Theorems
mod Utf8
mod Values
mod WrittenBack
