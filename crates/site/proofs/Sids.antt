-- The claim `sid` among the claims of an ID token, place by place.
use Rattle.std.proofs.Common.{◌≡◌, ℕ, suc, ◌+◌, ◌<◌, Bool, true, false, List, [], ◌∷◌, ◌++◌, None, Some, cond, take, drop, length, get_or, sym, ap, ◌∙◌, add-one, drop-cons, take-append-drop}
use Rattle.std.specs.Prelude.{codes}
use Rattle.std.specs.List.{find}
use Rattle.std.specs.Option.{option_or, option_and_then}
use Rattle.std.specs.Str.{bytes_eq}
use Rattle.std.proofs.lemmas.List.{take_more}
use Rattle.std.proofs.lemmas.List.Folds.{find-append}
use Rattle.serde_json.specs.Find.{as_str}
use Rattle.oidc_members.specs.Seen.{OutSeen}
use Rattle.site.specs.Sessions.{sid_in}

abbrev pub is_sid : OutSeen → Bool
is_sid claim = bytes_eq claim.name (codes "sid")

found_at : (claims : List OutSeen) (i : ℕ) (claim : OutSeen) → i < length claims → claim ≡ get_or claims i claim → is_sid claim ≡ true
    → find is_sid (take i claims) ≡ None → find is_sid claims ≡ Some claim
found_at claims i claim within is named none =
    let rest : drop i claims ≡ claim ∷ drop (i + 1) claims = rw add-one (drop-cons claims i claim within ∙ ap (λ c. c ∷ drop (suc i) claims) (sym is)) in
    ap (find is_sid) (sym (take-append-drop i claims))
    ∙ find-append is_sid (take i claims) (drop i claims)
    ∙ ap (λ found. option_or found (find is_sid (drop i claims))) none
    ∙ ap (find is_sid) rest
    ∙ (λ j. cond (named j) (Some claim) (find is_sid (drop (i + 1) claims)))

-- the first claim of that name gives the text
pub sid_at : (claims : List OutSeen) (i : ℕ) (claim : OutSeen) → i < length claims → claim ≡ get_or claims i claim → is_sid claim ≡ true
    → find is_sid (take i claims) ≡ None → as_str claim.value ≡ sid_in claims
sid_at claims i claim within is named none = sym (ap (option_and_then (λ (c : OutSeen). as_str c.value)) (found_at claims i claim within is named none))

-- and a claim of another name changes nothing
pub still_none : (claims : List OutSeen) (i : ℕ) (claim : OutSeen) → i < length claims → claim ≡ get_or claims i claim → is_sid claim ≡ false
    → find is_sid (take i claims) ≡ None → find is_sid (take (i + 1) claims) ≡ None
still_none claims i claim within is other none =
    ap (find is_sid) (take_more claims i claim within ∙ ap (λ c. take i claims ++ c ∷ []) (sym is))
    ∙ find-append is_sid (take i claims) (claim ∷ [])
    ∙ ap (λ found. option_or found (find is_sid (claim ∷ []))) none
    ∙ (λ j. cond (other j) (Some claim) None)
