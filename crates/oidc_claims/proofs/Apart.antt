-- Members of several kinds that stand one kind after another: each kind has its own, and none is faulty.
use Rattle.std.proofs.Common.{◌≡◌, List, [], ◌∷◌, ◌++◌, Option, None, Some, Bool, true, false, cond, not, ◌&&◌, refl, sym, ap, ◌∙◌, append_assoc, append-nil, filter, length}
use Rattle.std.proofs.lemmas.Bool.{and_parts}
use Rattle.std.specs.List.{flat_map}
use Rattle.std.specs.Option.{option_map_or}
use Rattle.std.proofs.lemmas.List.Elements.{filter-append}
use Rattle.oidc_members.specs.Seen.{SeenMember}
use Rattle.oidc_members.specs.declared.refusal.Refusal.{Refusal}
use Rattle.oidc_readers.specs.Passes.{placed, first_by}

module _
    {K : Type 0}
    (kind_of : SeenMember → Option K)
    (same : K → K → Bool)
    (judge : K → List SeenMember → SeenMember → Option Refusal)
    (fault : List SeenMember → SeenMember → Option Refusal) where
  abbrev pub is_of : K → SeenMember → Bool
  is_of k m = option_map_or (λ other. same k other) (kind_of m) false

  abbrev pub own : K → List SeenMember → List SeenMember
  own k ms = filter (is_of k) ms

  -- a member of a kind is judged after its own before it
  abbrev pub JudgesOwn : Type 0
  JudgesOwn = (k : K) (before : List SeenMember) (m : SeenMember) → kind_of m ≡ Some k → fault before m ≡ judge k (own k before) m

  -- members of one kind, each without fault after those before it
  abbrev pub IsPart : K → List SeenMember → List SeenMember → Type 0
  IsPart k before [] = Unit {0}
  IsPart k before (m ∷ ms) = (kind_of m ≡ Some k) × (judge k before m ≡ None) × IsPart k (before ++ m ∷ []) ms

  is_of_part : (d k : K) (m : SeenMember) → kind_of m ≡ Some k → is_of d m ≡ same d k
  is_of_part d k m is = ap (λ o. option_map_or (λ other. same d other) o false) is

  own_cons : (d : K) (b : Bool) (m : SeenMember) (ms : List SeenMember) → is_of d m ≡ b → own d ms ≡ cond b ms [] → own d (m ∷ ms) ≡ cond b (m ∷ ms) []
  own_cons d true m ms is e = (λ i. cond (is i) (m ∷ e i) (e i))
  own_cons d false m ms is e = (λ i. cond (is i) (m ∷ e i) (e i))

  by_none : (b : Bool) → [] ≡ cond {A = List SeenMember} b [] []
  by_none true = refl
  by_none false = refl

  -- a kind's part is its own, and no other's
  own_part : (d k : K) (before ms : List SeenMember) → IsPart k before ms → own d ms ≡ cond (same d k) ms []
  own_part d k before [] p = by_none (same d k)
  own_part d k before (m ∷ ms) p = own_cons d (same d k) m ms (is_of_part d k m p.0) (own_part d k (before ++ m ∷ []) ms p.2)

  -- a part brings no fault
  pass : JudgesOwn → (k : K) (all before ms rest : List SeenMember) → own k all ≡ before → IsPart k before ms → same k k ≡ true
      → first_by fault all (ms ++ rest) ≡ first_by fault (all ++ ms) rest
  pass judges k all before [] rest is p alike = ap (λ l. first_by fault l rest) (sym (append-nil all))
  pass judges k all before (m ∷ ms) rest is p alike =
      let here : fault all m ≡ None = judges k all m p.0 ∙ ap (λ b. judge k b m) is ∙ p.1 in
      let grown : own k (all ++ m ∷ []) ≡ before ++ m ∷ [] =
      filter-append (is_of k) all (m ∷ []) ∙ (λ i. is i ++ cond ((is_of_part k k m p.0 ∙ alike) i) (m ∷ []) []) in
      (λ i. placed (here i) (length all) (first_by fault (all ++ m ∷ []) (ms ++ rest)))
      ∙ pass judges k (all ++ m ∷ []) (before ++ m ∷ []) ms rest grown p.2 alike
      ∙ ap (λ l. first_by fault l rest) (append_assoc all (m ∷ []) ms)

  -- ---- all parts, one after another

  abbrev pub AllApart : K → List K → Type 0
  AllApart k [] = Unit {0}
  AllApart k (d ∷ ds) = (same d k ≡ false) × AllApart k ds

  abbrev pub Apart : List K → Type 0
  Apart [] = Unit {0}
  Apart (k ∷ ks) = (same k k ≡ true) × AllApart k ks × Apart ks

  abbrev pub is_apart : K → List K → Bool
  is_apart k [] = true
  is_apart k (d ∷ ds) = not (same d k) && is_apart k ds

  abbrev pub all_apart : List K → Bool
  all_apart [] = true
  all_apart (k ∷ ks) = same k k && (is_apart k ks && all_apart ks)

  not_true : (b : Bool) → not b ≡ true → b ≡ false
  not_true true h = sym h
  not_true false h = refl

  one_apart : (k : K) (ds : List K) → is_apart k ds ≡ true → AllApart k ds
  one_apart k [] h = tt
  one_apart k (d ∷ ds) h = let p = and_parts _ _ h in (not_true _ p.0, one_apart k ds p.1)

  pub apart_from : (ds : List K) → all_apart ds ≡ true → Apart ds
  apart_from [] h = tt
  apart_from (k ∷ ks) h = let p = and_parts _ _ h in let q = and_parts _ _ p.1 in (p.0, one_apart k ks q.0, apart_from ks q.1)

  abbrev pub AllNew : List SeenMember → List K → Type 0
  AllNew all [] = Unit {0}
  AllNew all (d ∷ ds) = (own d all ≡ []) × AllNew all ds

  module _ (parts : K → List SeenMember) (are : (k : K) → IsPart k [] (parts k)) where
    abbrev pub among : K → List K → List SeenMember
    among k ds = flat_map (λ d. cond (same k d) (parts d) []) ds

    pub own_among : (k : K) (ds : List K) → own k (flat_map parts ds) ≡ among k ds
    own_among k [] = refl
    own_among k (d ∷ ds) =
        filter-append (is_of k) (parts d) (flat_map parts ds) ∙ (λ i. own_part k d [] (parts d) (are d) i ++ own_among k ds i)

    fresh : (ds : List K) → AllNew [] ds
    fresh [] = tt
    fresh (d ∷ ds) = (refl, fresh ds)

    still_new : (k : K) (ds : List K) (all : List SeenMember) → AllApart k ds → AllNew all ds → AllNew (all ++ parts k) ds
    still_new k [] all apart new = tt
    still_new k (d ∷ ds) all apart new = (
      filter-append (is_of d) all (parts k) ∙ (λ i. new.0 i ++ (own_part d k [] (parts k) (are k) ∙ ap (λ b. cond b (parts k) []) apart.0) i),
      still_new k ds all apart.1 new.1,
    )

    clean : JudgesOwn → (all : List SeenMember) (ds : List K) → Apart ds → AllNew all ds → first_by fault all (flat_map parts ds) ≡ None
    clean judges all [] apart new = refl
    clean judges all (d ∷ ds) apart new =
        pass judges d all [] (parts d) (flat_map parts ds) new.0 (are d) apart.0
        ∙ clean judges (all ++ parts d) ds apart.2 (still_new d ds all apart.1 new.1)

    -- what is in order has no fault
    pub no_fault : JudgesOwn → (ds : List K) → Apart ds → first_by fault [] (flat_map parts ds) ≡ None
    no_fault judges ds apart = clean judges [] ds apart (fresh ds)
