-- in the order of reading
pub mod Octets
pub mod Hash
pub mod Key
pub mod Pkcs1
pub mod Pss
pub mod Signature
pub mod ProviderKey
pub mod Confusion
-- what no public clause cites
pub mod Limbs
pub mod Sound
pub mod Materials
-- the proof that the law of a key's verdict cites
pub mod NeverMemory
