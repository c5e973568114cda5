-- Masks: one block more, and one octet more that is xored.
use Rattle.std.proofs.Common.{◌≡◌, ℕ, zero, suc, ◌+◌, ◌<◌, List, [], ◌∷◌, ◌++◌, length, get_or, take, bit_xor, refl, ap, arith, add-one}
use Rattle.oidc_rsa.specs.declared.hash.HashFunction.{HashFunction}
use Rattle.oidc_rsa.specs.Octets.{i2osp}
use Rattle.oidc_rsa.specs.Hash.{hash_of}
use Rattle.oidc_rsa.specs.Pss.{mgf1_blocks, xored}

pub blocks_more : (hash : HashFunction) (seed : List ℕ) (count : ℕ) → mgf1_blocks hash seed (count + 1) ≡ mgf1_blocks hash seed count ++ hash_of hash (seed ++ i2osp count 4)
unfolding mgf1_blocks
blocks_more hash seed count = rw add-one refl

xored_suc : (xs ys : List ℕ) (i : ℕ) → i < length xs → i < length ys → xored (take (suc i) xs) (take (suc i) ys) ≡ xored (take i xs) (take i ys) ++ bit_xor (get_or xs i 0) (get_or ys i 0) ∷ []
xored_suc [] ys i h k = absurd (omega arith)
xored_suc (x ∷ xs) [] i h k = absurd (omega arith)
xored_suc (x ∷ xs) (y ∷ ys) zero h k = refl
xored_suc (x ∷ xs) (y ∷ ys) (suc i) h k =
    ap (λ rest. bit_xor x y ∷ rest) (xored_suc xs ys i (omega arith) (omega arith))

pub xored_more : (xs ys : List ℕ) (i : ℕ) → i < length xs → i < length ys → xored (take (i + 1) xs) (take (i + 1) ys) ≡ xored (take i xs) (take i ys) ++ bit_xor (get_or xs i 0) (get_or ys i 0) ∷ []
xored_more xs ys i h k = rw add-one (xored_suc xs ys i h k)
