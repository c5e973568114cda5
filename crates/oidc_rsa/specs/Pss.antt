-- The check of an encoded message of RSASSA-PSS (RFC 8017 section 9.1.2 and appendix B.2.1), with
-- MGF1 by the same hash function and a salt as long as a hash (RFC 7518 section 3.5).
use Rattle.std.specs.Prelude.{ℕ, zero, suc, ◌+◌, ◌-◌, ◌*◌, ◌%◌, ◌^◌, Bool, ◌&&◌, ◌==◌, nat_lt, nat_le, List, [], ◌∷◌, ◌++◌, length, take, drop, replicate, slice_index, slice_range, bit_xor, bytes_eq}
use Rattle.std.specs.Int.{div_ceil}
use Rattle.oidc_rsa.specs.declared.hash.HashFunction.{HashFunction}
use Rattle.oidc_rsa.specs.Octets.{i2osp}
use Rattle.oidc_rsa.specs.Hash.{hash_of, hash_len}

-- the hashes of the seed and each counter below `count`, one after another (B.2.1 step 3)
unfoldable pub mgf1_blocks : HashFunction → List ℕ → ℕ → List ℕ
mgf1_blocks hash seed zero = []
mgf1_blocks hash seed (suc count) =
    mgf1_blocks hash seed count ++ hash_of hash (seed ++ i2osp count 4)

-- the mask of that length: the first octets of as many blocks as it needs (B.2.1 step 4)
unfoldable pub mgf1 : HashFunction → List ℕ → ℕ → List ℕ
mgf1 hash seed len = take len (mgf1_blocks hash seed (div_ceil len (hash_len hash)))

-- octets xored with those of a mask
abbrev pub xored : List ℕ → List ℕ → List ℕ
xored [] mask = []
xored (octet ∷ octets) [] = []
xored (octet ∷ octets) (other ∷ mask) = bit_xor octet other ∷ xored octets mask

-- the leftmost bits of the first octet set to zero
abbrev pub clear_leftmost : ℕ → List ℕ → List ℕ
clear_leftmost count [] = []
clear_leftmost count (octet ∷ octets) = octet % 2 ^ (8 - count) ∷ octets

-- M': eight zero octets, the hash of the message, and the salt (step 12)
abbrev pub salted_message : HashFunction → List ℕ → List ℕ → List ℕ
salted_message hash message salt = replicate 8 0x00 ++ hash_of hash message ++ salt

-- DB is zero octets, 0x01 and a salt as long as a hash, and H is the hash of M' (steps 10 to 14)
abbrev pub is_consistent : HashFunction → List ℕ → List ℕ → List ℕ → Bool
is_consistent hash message db h =
    let zeros = length db - hash_len hash - 1
    in bytes_eq (take (zeros + 1) db) (replicate zeros 0x00 ++ 0x01 ∷ [])
    && bytes_eq h (hash_of hash (salted_message hash message (drop (zeros + 1) db)))

-- EM of `em_bits` bits is consistent with a message: it has room for a hash, a salt and two octets, and it is
-- maskedDB, H and 0xbc, where the bits of its octets beyond `em_bits` are zero (steps 3 to 14)
unfoldable pub is_pss_encoding : HashFunction → List ℕ → List ℕ → ℕ → Bool
is_pss_encoding hash message em em_bits =
    let db_len = length em - hash_len hash - 1
    in let masked_db = take db_len em
    in let h = slice_range em db_len (length em - 1)
    in let unused = 8 * length em - em_bits
    in nat_le (2 * hash_len hash + 2) (length em)
    && slice_index em (length em - 1) == 0xbc
    && nat_lt (slice_index em 0) (2 ^ (8 - unused))
    && is_consistent hash message (clear_leftmost unused (xored masked_db (mgf1 hash h db_len))) h
