-- in the order of reading
pub mod Numbers
pub mod Keys
pub mod KeySets
pub mod SigningKeys
pub mod Written
-- what no public clause cites
pub mod Codes
pub mod WrittenSeen
