pub mod Objects
pub mod ReadAs
pub mod ReadBack
pub mod SaidKeys
pub mod Sets
pub mod Written
