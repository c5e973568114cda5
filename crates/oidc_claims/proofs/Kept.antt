-- Additional members are kept whole.
use Rattle.std.proofs.Common.{◌≡◌, List, map, true, Ok, refl, sym, ap, ◌∙◌}
use Rattle.oidc_members.specs.Seen.{SeenMember, OutSeen}
use Rattle.oidc_claims.specs.Additional.{are_additional, out_of}
use Rattle.oidc_claims.specs.Others.{Others, list_of, others_of, others_of-list, read_others}
use Rattle.oidc_claims.proofs.Homes.{outs_are_additional}

pub others_of-any : (ms : List OutSeen) (o : Others) → list_of o ≡ ms → others_of ms ≡ o
others_of-any ms o e = ap others_of (sym e) ∙ others_of-list o

pub all_kept : (members : List SeenMember) → are_additional members ≡ true → (claims : Others) × (read_others members ≡ Ok claims) × (list_of claims ≡ map out_of members)
all_kept members h =
    let outs : List OutSeen = map out_of members in
    let kept : Others = record { list = outs; additional = outs_are_additional members ∙ h } in
    (kept, ap Ok (others_of-any outs kept refl), refl)
