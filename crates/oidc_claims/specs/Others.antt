-- Additional members kept whole, in their order. That the list and its fact are the value is proved
-- here, since an impl cites it.
use Rattle.std.specs.Prelude.{◌≡◌, List, [], map, Bool, true, false, refl, Result, Ok}
use Rattle.std.specs.Coded.{Coded, coded_list, code_by}
use Rattle.std.proofs.Math.Bool.{Bool-set}
use Rattle.std.proofs.Common.{subst, sym, ◌∙◌}
use Rattle.std.proofs.lemmas.Bool.{true≢false}
use Rattle.oidc_members.specs.Seen.{SeenMember, OutSeen}
use Rattle.oidc_members.specs.Codes.{out_seen_code}
use Rattle.oidc_members.specs.declared.refusal.Refusal.{Refusal}
use Rattle.oidc_claims.specs.Additional.{are_written_additional, out_of}

-- what contracts see of `AllOtherClaims`: its members, each of which is additional
pub record Others : Type 0 where
  pub list : List OutSeen
  pub additional : are_written_additional list ≡ true

abbrev pub list_of : Others → List OutSeen
list_of o = o.list

others_at : (ms ns : List OutSeen) (e : ms ≡ ns) (p : are_written_additional ms ≡ true) (q : are_written_additional ns ≡ true)
    → ◌≡◌ {A = Others} (record { list = ms; additional = p }) (record { list = ns; additional = q })
others_at ms ns e p q =
    subst (λ ns. (q : are_written_additional ns ≡ true) → ◌≡◌ {A = Others} (record { list = ms; additional = p }) (record { list = ns; additional = q }))
    e (λ q i. record { list = ms; additional = Bool-set _ _ p q i }) q

-- `read` is never asked about a list with another member; that list would be kept as none.
kept : (ms : List OutSeen) (b : Bool) → are_written_additional ms ≡ b → Others
kept ms true h = record { list = ms; additional = h }
kept ms false h = record { list = []; additional = refl }

-- the list, where each of its members is additional
pub others_of : List OutSeen → Others
others_of ms = kept ms (are_written_additional ms) refl

kept_same : (o : Others) (b : Bool) (h : are_written_additional o.list ≡ b) → kept o.list b h ≡ o
unfolding kept
kept_same o true h = others_at o.list o.list refl h o.additional
kept_same o false h = absurd (true≢false (sym o.additional ∙ h))

pub others_of-list : (o : Others) → others_of o.list ≡ o
unfolding others_of
others_of-list o = kept_same o (are_written_additional o.list) refl

abbrev pub others_code : Coded Others
others_code = code_by (List OutSeen) (coded_list out_seen_code) list_of others_of others_of-list

-- Members that are read are kept with their names and values, in their order. None is refused.
abbrev pub read_others : List SeenMember → Result Others Refusal
read_others members = Ok (others_of (map out_of members))
