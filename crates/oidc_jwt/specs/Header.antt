-- The JOSE header of a token (RFC 7515 section 4.1, RFC 7518 sections 3.1 and 5.1).
use Rattle.std.specs.Prelude.{ℕ, List, [], ◌∷◌, ◌++◌, Option, Some, option_map, is_some, Result, Ok, codes, if◌then◌else◌}
use Rattle.std.specs.Option.{ok_or, option_or}
use Rattle.std.specs.Str.{bytes_eq}
use Rattle.serde_json.specs.Data.{string}
use Rattle.oidc_members.specs.Seen.{SeenMember, OutSeen}
use Rattle.oidc_members.specs.declared.refusal.Refusal.{Refusal}
use Rattle.oidc_members.specs.declared.refusal.ParseKind.TheVariants.{Algorithm}
use Rattle.oidc_readers.specs.declared.kinds.Present.{Present}
use Rattle.oidc_readers.specs.Kinds.{Kind, of_member, text_kind, any_kind, or_null}
use Rattle.oidc_readers.specs.Fields.{Field, field, judged}
use Rattle.oidc_readers.specs.Records.{◌>>=◌, Rule, by_table, faultless, required, optional}
use Rattle.oidc_readers.specs.Writing.{one_member, text_member}
use Rattle.oidc_jwt.specs.declared.header.JsonWebTokenAlgorithm.{JsonWebTokenAlgorithm}
use Rattle.oidc_jwt.specs.declared.header.JsonWebTokenAlgorithm.TheVariants as algorithm
use Rattle.oidc_jwt.specs.declared.header.TokenHeader.{TokenHeader}

-- ---- the table

-- the media type of the token (RFC 7515 section 4.1.9)
abbrev pub typ : Field (Option (List ℕ))
typ = field (codes "typ") (or_null text_kind)

-- the media type of its payload (section 4.1.10)
abbrev pub cty : Field (Option (List ℕ))
cty = field (codes "cty") (or_null text_kind)

-- the id of its key (section 4.1.4)
abbrev pub kid : Field (Option (List ℕ))
kid = field (codes "kid") (or_null text_kind)

-- extensions that have to be understood (section 4.1.11); the value may be any
abbrev pub crit : Field (Option Present)
crit = field (codes "crit") (or_null (any_kind (record {})))

module _ {JE JS : Type 0} (encryption_named : List ℕ → Option JE)
    (signing_named : List ℕ → Option JS) where
  -- the text `none`, else the text of an algorithm that signs, else of one that encrypts content
  abbrev pub algorithm_named : List ℕ → Option (JsonWebTokenAlgorithm JE JS)
  algorithm_named text =
      if bytes_eq text (codes "none") then Some algorithm.None
      else option_or
      (option_map algorithm.Signature (signing_named text))
      (option_map algorithm.Encryption (encryption_named text))

  abbrev pub algorithm_kind : Kind (JsonWebTokenAlgorithm JE JS)
  algorithm_kind m = text_kind m >>= λ text. ok_or (algorithm_named text) (of_member Algorithm m)

  -- the algorithm (section 4.1.1)
  abbrev pub alg : Field (JsonWebTokenAlgorithm JE JS)
  alg = field (codes "alg") algorithm_kind

  abbrev pub header_rule : Rule
  header_rule = by_table (judged alg ∷ judged typ ∷ judged cty ∷ judged kid ∷ judged crit ∷ [])

  -- ---- the header

  unfoldable pub header_of : List SeenMember → Result (TokenHeader JE JS) Refusal
  header_of members = do
    u ← faultless header_rule members
    named ← required alg members
    Ok (record {
      alg = named;
      typ = optional typ members;
      cty = optional cty members;
      kid = optional kid members;
      crit = is_some (optional crit members);
    })

-- the header that a token is issued with: the text of its algorithm, and the id of its key where it has one
abbrev pub written_header : List ℕ → Option (List ℕ) → List OutSeen
written_header alg_text key_id = one_member (codes "alg") (string alg_text) ++ text_member kid.name key_id
