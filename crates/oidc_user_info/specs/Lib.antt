-- In reading order: the claims; refusals; what an answer is worth, row by row; the request; what each reply rests
-- on, and what a request leaves of a transport; which claims are read back; that each member has one home; URLs with
-- pairs after their query, and requests to a provider's logout.
pub mod UserInfoClaims
pub mod InfoErrors
pub mod InfoAnswers
pub mod InfoRequests
pub mod InfoCauses
pub mod InfoRuns
pub mod RoundTrip
pub mod Homes
pub mod Lending
pub mod QueryPairs
pub mod Logout
-- what no public clause cites
pub mod IssuerAndAudience
pub mod Codes
