-- A claim in several languages reads back.
use Rattle.std.proofs.Common.{◌≡◌, ◌≢◌, ℕ, List, [], ◌∷◌, ◌++◌, map, filter, fold, Option, None, Some, Bool, true, false, ◌&&◌, ◌||◌, cond, refl, sym, ap, subst, ◌∙◌, append_assoc, append-nil, length, arith}
use Rattle.std.specs.Prelude.{T}
use Rattle.std.specs.FinMap as finite
use Rattle.std.specs.FinMap.Entries.{is_sorted, below_all}
use Rattle.std.specs.List.{list_any}
use Rattle.std.specs.Option.{option_map_or}
use Rattle.std.specs.Str.{bytes_eq}
use Rattle.std.specs.declared.cmp.Ordering.{Ordering}
use Rattle.std.specs.declared.cmp.Ordering.TheVariants.{Equal, Less, Greater}
use Rattle.std.specs.Ordering.{is_lt, is_eq}
use Rattle.std.specs.Cmp.{eq_by_cmp_equiv}
use Rattle.oidc_types.specs.{Variants, tag_cmp}
use Rattle.oidc_types.proofs.Theorems.{tags_total}
use Rattle.oidc_types.proofs.Theorems.{from_entries-append, append-next, from_entries-entries}
use Rattle.oidc_members.specs.Seen.{SeenMember, OutSeen}
use Rattle.oidc_members.specs.declared.reading.Reading.{Reading}
use Rattle.oidc_members.specs.declared.refusal.Refusal.{Refusal}
use Rattle.oidc_members.specs.declared.refusal.ParseKind.TheVariants.{Duplicate}
use Rattle.oidc_readers.specs.Kinds.{Kind, of_member, text_kind}
use Rattle.oidc_readers.specs.Fields.{is_nil}
use Rattle.oidc_claims.specs.declared.claim.Claim.{Claim}
use Rattle.oidc_claims.specs.declared.claim.ClaimKind.TheVariants as kind
use Rattle.oidc_claims.specs.Table.{name_of, claim_of, kind_of, base_of, tag_of}
use Rattle.oidc_claims.specs.Claims.{own, fault_of_kind, fault_at, same_tag, held, with_value, variants, unless_empty}
use Rattle.oidc_claims.specs.Write.{with_tag, variant_member, variant_members}
use Rattle.oidc_claims.specs.Write.{IsTag, AreTagged, HasVariants}
use Rattle.oidc_claims.proofs.Standing.{read_with}
use Rattle.oidc_claims.proofs.Apart.{IsPart}
use Rattle.oidc_claims.proofs.Moves.{is_of_named}

-- ---- the members of a claim, as parts of the whole list

abbrev pub key : SeenMember → Option Claim
key m = claim_of (base_of m.name)

abbrev pub same : Claim → Claim → Bool
same a b = bytes_eq (name_of a) (name_of b)

abbrev pub judge : {GC : Type 0} → Kind GC → Reading → Claim → List SeenMember → SeenMember → Option Refusal
judge gender_read reading c = fault_of_kind gender_read reading (kind_of c)

abbrev pub IsClaimPart : {GC : Type 0} → Kind GC → Reading → Claim → List SeenMember → List SeenMember → Type 0
IsClaimPart gender_read reading = IsPart key same (judge gender_read reading) (fault_at gender_read reading)

-- the members of a claim, by the key
pub keyed : (c : Claim) (ms : List SeenMember) → own c ms ≡ filter (λ m. option_map_or (λ other. same c other) (key m) false) ms
keyed c ms = λ i. filter (λ m. is_of_named c m i) ms

-- ---- tags in order

Entry : Type 0
Entry = Option (List ℕ) × List ℕ

left_of : (a b : Bool) → T (a && b) → T a
left_of true b h = tt
left_of false b h = absurd h

right_of : (a b : Bool) → T (a && b) → T b
right_of true b h = h
right_of false b h = absurd h

no_tie : (o : Ordering) → T (is_lt o) → is_eq o ≡ false
no_tie Less h = refl
no_tie Equal h = absurd h
no_tie Greater h = absurd h

below_later : (x : Option (List ℕ)) (e : Option (List ℕ) × List ℕ) (es rest : List (Option (List ℕ) × List ℕ)) → T (below_all tag_cmp x (es ++ e ∷ rest)) → T (is_lt (tag_cmp x e.0))
below_later x e [] rest h = left_of _ _ h
below_later x e (d ∷ es) rest h = below_later x e es rest (right_of _ _ h)

-- no tag before a place ties with the tag there
unseen : (done rest : List (Option (List ℕ) × List ℕ)) (e : Option (List ℕ) × List ℕ) → T (is_sorted tag_cmp (done ++ e ∷ rest)) → list_any (λ d. is_eq (tag_cmp e.0 d.0)) done ≡ false
unseen [] rest e h = refl
unseen (d ∷ done) rest e h =
    ap (λ b. b || list_any (λ d. is_eq (tag_cmp e.0 d.0)) done) ((eq_by_cmp_equiv tags_total).symm e.0 d.0 ∙ no_tie (tag_cmp d.0 e.0) (below_later d.0 e done rest (left_of _ _ h)))
    ∙ unseen done rest e (right_of _ _ h)

-- ---- one claim

-- what is known of a localized claim's name
pub record Named (c : Claim) : Type 0 where
  pub is_text : kind_of c ≡ kind.LocalizedText
  pub is_base : (tag : Option (List ℕ)) → claim_of (base_of (with_tag (name_of c) tag)) ≡ Some c
  pub is_tag : (tag : Option (List ℕ)) → IsTag tag → tag_of (with_tag (name_of c) tag) ≡ tag

module _ {GC : Type 0} (gender_read : Kind GC) (reading : Reading) (text_of : OutSeen → List ℕ) (c : Claim) (named : Named c) where
  abbrev member : Option (List ℕ) × List ℕ → SeenMember
  member e = read_with text_of (variant_member c e)

  fits : (e : Option (List ℕ) × List ℕ) (before : List SeenMember) → list_any (same_tag (member e)) before ≡ false → judge gender_read reading c before (member e) ≡ None
  fits e before new =
      ap (λ k. fault_of_kind gender_read reading k before (member e)) named.is_text
      ∙ ap (λ b. cond b (Some (of_member Duplicate (member e))) None) new

  same_tags : (done : List (Option (List ℕ) × List ℕ)) (e : Option (List ℕ) × List ℕ) → AreTagged done → IsTag e.0
      → list_any (same_tag (member e)) (map member done) ≡ list_any (λ d. is_eq (tag_cmp e.0 d.0)) done
  same_tags [] e t h = refl
  same_tags (d ∷ done) e t h = λ i. is_eq (tag_cmp (named.is_tag e.0 h i) (named.is_tag d.0 t.0 i)) || same_tags done e t.1 h i

  map_push : (done : List (Option (List ℕ) × List ℕ)) (e : Option (List ℕ) × List ℕ) → map member (done ++ e ∷ []) ≡ map member done ++ member e ∷ []
  map_push [] e = refl
  map_push (d ∷ done) e = ap (λ r. member d ∷ r) (map_push done e)

  tags_push : (done : List (Option (List ℕ) × List ℕ)) (e : Option (List ℕ) × List ℕ) → AreTagged done → IsTag e.0 → AreTagged (done ++ e ∷ [])
  tags_push [] e t h = (h, tt)
  tags_push (d ∷ done) e t h = (t.0, tags_push done e t.1 h)

  is_part : (done es : List (Option (List ℕ) × List ℕ)) → AreTagged done → AreTagged es → T (is_sorted tag_cmp (done ++ es)) → IsClaimPart gender_read reading c (map member done) (map member es)
  is_part done [] td te s = tt
  is_part done (e ∷ es) td te s = (
    named.is_base e.0,
    fits e (map member done) (same_tags done e td te.0 ∙ unseen done es e s),
    subst (λ l. IsClaimPart gender_read reading c l (map member es)) (map_push done e)
        (is_part (done ++ e ∷ []) es (tags_push done e td te.0) te.1 (subst (λ l. T (is_sorted tag_cmp l)) (sym (append_assoc done (e ∷ []) es)) s)),
  )

  fold_back : (all : Variants (List ℕ)) (done es : List (Option (List ℕ) × List ℕ)) → finite.entries all ≡ done ++ es → AreTagged es
      → fold (λ values m. with_value values (tag_of m.name) (held text_kind m)) (finite.from_entries done) (map member es) ≡ all
  fold_back all done [] is t = ap finite.from_entries (sym (is ∙ append-nil done)) ∙ from_entries-entries all
  fold_back all done (e ∷ es) is t =
      ap (λ values. fold (λ values m. with_value values (tag_of m.name) (held text_kind m)) values (map member es))
      (ap (λ tag. finite.insert (finite.from_entries done) tag e.1) (named.is_tag e.0 t.0) ∙ sym (from_entries-append all done es (e ∷ es) e is refl))
      ∙ fold_back all (done ++ e ∷ []) es (append-next done es (e ∷ es) (finite.entries all) e is refl) t.1

  pub variants_are_part : (o : Option (Variants (List ℕ))) → HasVariants o → IsClaimPart gender_read reading c [] (map (read_with text_of) (variant_members c o))
  variants_are_part None h = tt
  variants_are_part (Some all) h =
      subst (λ l. IsClaimPart gender_read reading c [] l) (mapped (finite.entries all)) (is_part [] (finite.entries all) tt h.1 (finite.entries_sorted all))
    where
      mapped : (es : List (Option (List ℕ) × List ℕ)) → map member es ≡ map (read_with text_of) (map (variant_member c) es)
      mapped [] = refl
      mapped (e ∷ es) = ap (λ r. member e ∷ r) (mapped es)

  not_nil : (es : List (Option (List ℕ) × List ℕ)) → es ≢ [] → is_nil es ≡ false
  not_nil [] h = absurd (h refl)
  not_nil (e ∷ es) h = refl

  nil_of_length : (es : List (Option (List ℕ) × List ℕ)) → length es ≡ 0 → is_nil es ≡ true
  nil_of_length [] h = refl
  nil_of_length (e ∷ es) h = absurd (omega arith)

  nothing_back : unless_empty {V = List ℕ} finite.empty ≡ None
  nothing_back =
      ap (λ b. cond b None (Some finite.empty))
      (nil_of_length (finite.entries finite.empty) (sym (finite.len-entries finite.empty) ∙ finite.len-empty tag_cmp (List ℕ)))

  pub variants_back : (o : Option (Variants (List ℕ))) → HasVariants o → unless_empty (variants text_kind (map (read_with text_of) (variant_members c o))) ≡ o
  variants_back None h = nothing_back
  variants_back (Some all) h =
      ap (λ ms. unless_empty (variants text_kind ms)) (sym (mapped (finite.entries all)))
      ∙ ap unless_empty (fold_back all [] (finite.entries all) refl h.1)
      ∙ ap (λ b. cond b None (Some all)) (not_nil (finite.entries all) h.0)
    where
      mapped : (es : List (Option (List ℕ) × List ℕ)) → map member es ≡ map (read_with text_of) (map (variant_member c) es)
      mapped [] = refl
      mapped (e ∷ es) = ap (λ r. member e ∷ r) (mapped es)
