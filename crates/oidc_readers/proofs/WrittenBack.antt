-- What was written is split into the members that were written, where each name and each value reads back.
use Rattle.std.specs.Prelude.{⊤}
use Rattle.std.proofs.Common.{◌≡◌, false, cond, ◌||◌, List, [], ◌∷◌, map, Some, None, option_map, option_and_then, refl, ap, ◌∙◌, arith}
use Rattle.std.specs.List.{list_any, All}
use Rattle.std.proofs.lemmas.Bool.{or_parts, or_from}
use Rattle.std.proofs.lemmas.List.Elements.{All-head, All-tail, All-weaker}
use Rattle.json.specs.Print.{quoted}
use Rattle.serde_json.specs.Data.{string, object}
use Rattle.serde_json.specs.Written.{has_float, compact_text}
use Rattle.oidc_members.specs.Places.{backslashes, is_unescaped_quote, is_outside, opened, closed}
use Rattle.oidc_members.specs.Seen.{OutSeen}
use Rattle.oidc_members.specs.Write.{data_of, object_text, any_float}
use Rattle.oidc_members.specs.Objects.{trimmed, is_braced, pieces, halves, read_bytes, member_of, all_some, loose_members_of, without_floats, members_of}
use Rattle.oidc_readers.specs.WrittenBack.{MayBeWritten, as_read}
use Rattle.oidc_readers.proofs.Values.{trimmed_value}
use Rattle.oidc_readers.proofs.JsonValues.{json_value}
use Rattle.oidc_readers.proofs.ReadBack.{no_float, bytes_back}
use Rattle.oidc_readers.proofs.Parts.{half_of, float_free, object_cut}

-- The name and the value of a member read back, each from its own text.
pub record ReadsBack (m : OutSeen) : Type 0 where
  pub name : read_bytes (quoted m.name) ≡ Some (string m.name)
  pub value : read_bytes (compact_text m.value) ≡ Some m.value

unfoldable steps : ⊤
unfolding loose_members_of members_of trimmed is_braced pieces halves member_of opened closed is_outside is_unescaped_quote backslashes
steps = tt

none_written : members_of (object_text []) ≡ Some []
unfolding steps
none_written = refl

member_back : (m : OutSeen) → has_float m.value ≡ false → ReadsBack m → option_and_then member_of (half_of m) ≡ Some (as_read m)
unfolding member_of
member_back m whole back = rw (back.name, back.value, trimmed_value m.value whole) refl

members_back : (ms : List OutSeen) → any_float ms ≡ false → All ReadsBack ms → all_some (option_and_then member_of) (map half_of ms) ≡ Some (map as_read ms)
members_back [] whole back = refl
members_back (m ∷ ms) whole back =
    let p = or_parts (has_float m.value) _ whole in
    ap (option_and_then (λ y. option_map (λ ys. y ∷ ys) (all_some (option_and_then member_of) (map half_of ms)))) (member_back m p.0 (All-head ReadsBack m ms back))
    ∙ ap (option_map (λ ys. as_read m ∷ ys)) (members_back ms p.1 (All-tail ReadsBack m ms back))

same_floats : (ms : List OutSeen) → list_any (λ member. has_float member.value) (map as_read ms) ≡ any_float ms
same_floats [] = refl
same_floats (m ∷ ms) = ap (λ b. has_float m.value || b) (same_floats ms)

loose_back : (m : OutSeen) (ms : List OutSeen) → any_float (m ∷ ms) ≡ false → All ReadsBack (m ∷ ms) → loose_members_of (object_text (m ∷ ms)) ≡ Some (map as_read (m ∷ ms))
unfolding loose_members_of
loose_back m ms whole back =
    let cut = object_cut m ms whole in
    rw (trimmed_value (object (data_of (m ∷ ms))) (float_free (m ∷ ms) ∙ whole), cut.braced, cut.parts) (members_back (m ∷ ms) whole back)

pub split_back : (ms : List OutSeen) → any_float ms ≡ false → All ReadsBack ms → members_of (object_text ms) ≡ Some (map as_read ms)
unfolding members_of
split_back [] whole back = none_written
split_back (m ∷ ms) whole back =
    ap (option_and_then without_floats) (loose_back m ms whole back)
    ∙ ap (λ b. cond b None (Some (map as_read (m ∷ ms)))) (same_floats (m ∷ ms) ∙ whole)

-- ---- members that may be written

written_back : (m : OutSeen) → MayBeWritten m → ReadsBack m
written_back m h = record { name = bytes_back (string m.name) h.texts.0 (omega arith); value = bytes_back m.value (json_value m.value h.value.0 h.texts.1) h.value.1 }

whole_members : (ms : List OutSeen) → All MayBeWritten ms → any_float ms ≡ false
whole_members [] h = refl
whole_members (m ∷ ms) h =
    let first = All-head MayBeWritten m ms h in
    or_from (has_float m.value) _ (no_float m.value (json_value m.value first.value.0 first.texts.1)) (whole_members ms (All-tail MayBeWritten m ms h))

pub written_split_back : (ms : List OutSeen) → All MayBeWritten ms → members_of (object_text ms) ≡ Some (map as_read ms)
written_split_back ms h = split_back ms (whole_members ms h) (All-weaker MayBeWritten ReadsBack written_back ms h)
