-- The names of a claim in several languages: what stands in front of the `#` is the claim's name, and what stands
-- behind it is the tag.
use native.Mathlib.Omega.{arith}
use Rattle.std.proofs.Common.{◌≡◌, ◌==◌, ◌∙◌, ◌+◌, ℕ, suc, List, [], ◌∷◌, ◌++◌, Bool, false, not, cond, Option, None, Some, codes, refl, ap, take, drop}
use Rattle.std.specs.List.{after_first, prefix_len, list_any}
use Rattle.oidc_claims.specs.declared.claim.Claim.{Claim}
use Rattle.oidc_claims.specs.declared.claim.ClaimKind.TheVariants as kind
use Rattle.oidc_claims.specs.Table.{name_of, kind_of, claim_of, base_of, tag_of, as_tag}
use Rattle.oidc_claims.specs.Write.{IsTag, with_tag}
use Rattle.oidc_claims.proofs.VariantsBack.{Named}

abbrev is_hash : ℕ → Bool
is_hash byte = byte == 35

abbrev has_hash : List ℕ → Bool
has_hash name = list_any is_hash name

abbrev place : List ℕ → ℕ
place name = prefix_len (λ byte. not (is_hash byte)) name

-- the place of the first `#`, behind a byte that is none
later : (b : ℕ) (bs : List ℕ) → is_hash b ≡ false → place (b ∷ bs) ≡ suc (place bs)
later b bs other = ap (λ h. cond (not h) (1 + place bs) 0) other ∙ omega arith

first_free : (b : ℕ) (bs : List ℕ) → has_hash (b ∷ bs) ≡ false → is_hash b ≡ false
first_free b bs free = grind arith

rest_free : (b : ℕ) (bs : List ℕ) → has_hash (b ∷ bs) ≡ false → has_hash bs ≡ false
rest_free b bs free = grind arith

-- ---- a name without a `#`, alone and in front of one

alone : (name : List ℕ) → has_hash name ≡ false → base_of name ≡ name
alone [] free = refl
alone (b ∷ bs) free =
    ap (λ n. take n (b ∷ bs)) (later b bs (first_free b bs free)) ∙ ap (λ l. b ∷ l) (alone bs (rest_free b bs free))

in_front : (name tag : List ℕ) → has_hash name ≡ false → base_of (name ++ codes "#" ++ tag) ≡ name
in_front [] tag free = refl
in_front (b ∷ bs) tag free =
    let rest = bs ++ codes "#" ++ tag in
    ap (λ n. take n (b ∷ rest)) (later b rest (first_free b bs free)) ∙ ap (λ l. b ∷ l) (in_front bs tag (rest_free b bs free))

one_more : (n : ℕ) → suc n + 1 ≡ suc (n + 1)
one_more n = omega arith

nothing_behind : (name : List ℕ) → has_hash name ≡ false → after_first is_hash name ≡ []
nothing_behind [] free = refl
nothing_behind (b ∷ bs) free =
    ap (λ n. drop (n + 1) (b ∷ bs)) (later b bs (first_free b bs free))
    ∙ ap (λ n. drop n (b ∷ bs)) (one_more (place bs))
    ∙ nothing_behind bs (rest_free b bs free)

behind : (name tag : List ℕ) → has_hash name ≡ false → after_first is_hash (name ++ codes "#" ++ tag) ≡ tag
behind [] tag free = refl
behind (b ∷ bs) tag free =
    let rest = bs ++ codes "#" ++ tag in
    ap (λ n. drop (n + 1) (b ∷ rest)) (later b rest (first_free b bs free))
    ∙ ap (λ n. drop n (b ∷ rest)) (one_more (place rest))
    ∙ behind bs tag (rest_free b bs free)

-- ---- a claim's names

base : (name : List ℕ) (tag : Option (List ℕ)) → has_hash name ≡ false → base_of (with_tag name tag) ≡ name
base name None free = alone name free
base name (Some tag) free = in_front name tag free

whole_tag : (tag : List ℕ) → IsTag (Some tag) → as_tag tag ≡ Some tag
whole_tag [] is_tag = absurd (is_tag refl)
whole_tag (b ∷ bs) is_tag = refl

its_tag : (name : List ℕ) (tag : Option (List ℕ)) → has_hash name ≡ false → IsTag tag → tag_of (with_tag name tag) ≡ tag
its_tag name None free is_tag = ap as_tag (nothing_behind name free)
its_tag name (Some tag) free is_tag = ap as_tag (behind name tag free) ∙ whole_tag tag is_tag

pub localized : (c : Claim) → kind_of c ≡ kind.LocalizedText → has_hash (name_of c) ≡ false → claim_of (name_of c) ≡ Some c → Named c
localized c is_text free found =
    record { is_text = is_text; is_base = λ tag. ap claim_of (base (name_of c) tag free) ∙ found; is_tag = λ tag is. its_tag (name_of c) tag free is }
