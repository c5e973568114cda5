-- Verdicts: the number and the octets that a key makes of a signature, and the tests of RSASSA-PSS.
use Rattle.std.proofs.Common.{◌≡◌, ℕ, ◌+◌, ◌-◌, ◌*◌, ◌%◌, ◌^◌, ◌<◌, ◌≤◌, ◌&&◌, Bool, true, false, nat_lt, List, length, take, drop, ap, sym, ◌∙◌, arith}
use Rattle.std.proofs.Math.Pow.{pow_mono}
use Rattle.std.proofs.lemmas.List.{take_all}
use Rattle.oidc_rsa.specs.declared.hash.HashFunction.{HashFunction}
use Rattle.oidc_rsa.specs.Octets.{os2ip, i2osp}
use Rattle.oidc_rsa.specs.Key.{PublicKey, modulus_len, octets_for, rsavp1}
use Rattle.oidc_rsa.specs.Pss.{is_pss_encoding}
use Rattle.oidc_rsa.specs.Signature.{is_in_range, message_representative, is_pss_signature}
use Rattle.oidc_rsa.proofs.Digits.{number_of_fitting, length-octets, drop-octets}

-- ---- the number

pub recovered_is : (key : PublicKey) (signature : List ℕ) (v b e n : ℕ) → v ≡ b ^ e % n → b ≡ os2ip signature → e ≡ key.exponent → n ≡ key.modulus → v ≡ message_representative key signature
unfolding rsavp1
recovered_is key signature v b e n is of_b of_e of_n =
    is
    ∙ (ap (λ (x : ℕ). x ^ e % n) of_b
    ∙ (ap (λ (x : ℕ). os2ip signature ^ x % n) of_e ∙ ap (λ (x : ℕ). os2ip signature ^ key.exponent % x) of_n))

recovered_below : (key : PublicKey) (signature : List ℕ) → 0 < key.modulus → message_representative key signature < key.modulus
unfolding rsavp1
recovered_below key signature some = omega arith

-- ---- the octets

-- a number below a modulus is written by as many octets
writes_below : (key : PublicKey) (n : ℕ) → key.modulus < 2 ^ key.bits → n < key.modulus → os2ip (i2osp n (modulus_len key)) ≡ n
unfolding i2osp
writes_below key n size below =
    let room : key.bits ≤ 8 * modulus_len key = omega arith in
    let order : 2 ^ key.bits ≤ 2 ^ (8 * modulus_len key) = pow_mono {i = key.bits} {j = 8 * modulus_len key} room in
    number_of_fitting (modulus_len key) n (omega arith)

pub writes_recovered : (key : PublicKey) (signature out : List ℕ) → 0 < key.modulus → key.modulus < 2 ^ key.bits → out ≡ i2osp (message_representative key signature) (modulus_len key) → os2ip out ≡ message_representative key signature
writes_recovered key signature out some size is =
    ap os2ip is ∙ writes_below key (message_representative key signature) size (recovered_below key signature some)

pub length-written : (n len : ℕ) → length (i2osp n len) ≡ len
unfolding i2osp
length-written n len = length-octets len n

-- without those above they are those of fewer
pub last_octets : (out : List ℕ) (n above len most rest : ℕ) → out ≡ i2osp n most → most ≡ above + len → rest ≡ len → take rest (drop above out) ≡ i2osp n len
unfolding i2osp
last_octets out n above len most rest is split e =
    let fewer = ap (drop above) is ∙ drop-octets above most len n split in
    ap (take rest) fewer ∙ take_all rest (i2osp n len) (omega (arith, length-octets len n))

-- ---- RSASSA-PSS, of a representative

pub too_great_for_pss : (hash : HashFunction) (key : PublicKey) (message signature : List ℕ) (fits : Bool) → true ≡ is_in_range key signature → fits ≡ nat_lt (message_representative key signature) (256 ^ octets_for (key.bits - 1)) → fits ≡ false → false ≡ is_pss_signature hash key message signature
too_great_for_pss hash key message signature fits representative is above =
    let em_bits = key.bits - 1 in let em_len = octets_for em_bits in
    let below = nat_lt (message_representative key signature) (256 ^ em_len) in
    let encodes = is_pss_encoding hash message (i2osp (message_representative key signature) em_len) em_bits in
    ap (λ (t : Bool). t && encodes) (sym above ∙ is) ∙ ap (λ (t : Bool). t && below && encodes) representative

pub decided_by_encoding : (hash : HashFunction) (key : PublicKey) (message signature em : List ℕ) (em_bits : ℕ) (fits verdict : Bool) → true ≡ is_in_range key signature → fits ≡ nat_lt (message_representative key signature) (256 ^ octets_for (key.bits - 1)) → fits ≡ true → em ≡ i2osp (message_representative key signature) (octets_for (key.bits - 1)) → em_bits ≡ key.bits - 1 → verdict ≡ is_pss_encoding hash message em em_bits → verdict ≡ is_pss_signature hash key message signature
decided_by_encoding hash key message signature em em_bits fits verdict representative is yes_fits of_em of_bits decided =
    let em_len = octets_for (key.bits - 1) in
    let below = nat_lt (message_representative key signature) (256 ^ em_len) in
    let encodes = is_pss_encoding hash message (i2osp (message_representative key signature) em_len) (key.bits - 1) in
    decided
    ∙ (ap (λ (xs : List ℕ). is_pss_encoding hash message xs em_bits) of_em
    ∙ (ap (λ (k : ℕ). is_pss_encoding hash message (i2osp (message_representative key signature) em_len) k) of_bits
    ∙ (ap (λ (t : Bool). t && encodes) (sym yes_fits ∙ is) ∙ ap (λ (t : Bool). t && below && encodes) representative)))
