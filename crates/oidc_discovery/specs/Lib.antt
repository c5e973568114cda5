-- in the order of reading
pub mod Urls
pub mod Metadata
pub mod Documents
pub mod Requests
pub mod Answers
pub mod Pinned
pub mod Judging
-- what no public clause cites
pub mod MetadataFields
pub mod Codes
