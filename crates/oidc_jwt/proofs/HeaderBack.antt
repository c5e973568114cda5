-- The header of a token that is issued is read back.
use Rattle.std.proofs.Common.{◌≡◌, ◌≢◌, ℕ, List, [], map, Bool, true, false, cond, Option, None, Some, option_map, Ok, codes, refl, ap, ◌∙◌, All, lit≤}
use Rattle.std.specs.Option.{option_or}
use Rattle.std.specs.Str.{bytes_eq}
use Rattle.std.proofs.lemmas.List.Elements.{All-nil, All-push}
use Rattle.std.proofs.lemmas.Slice.Eq.{bytes_eq-Decides}
use Rattle.oidc_members.specs.Seen.{OutSeen}
use Rattle.oidc_members.specs.Write.{object_text}
use Rattle.oidc_readers.specs.Fields.{judged}
use Rattle.oidc_readers.specs.Records.{◌>>=◌}
use Rattle.oidc_readers.specs.WrittenBack.{MayStand, IsUtf8Member, as_read}
use Rattle.oidc_jwt.specs.declared.header.JsonWebTokenAlgorithm.TheVariants as algorithm
use Rattle.oidc_jwt.specs.Header.{algorithm_named, header_of, written_header}
use Rattle.oidc_jwt.specs.Tokens.{object_read}
use Rattle.oidc_jwt.specs.Issuing.{signed_with}
use Rattle.oidc_jwt.proofs.Issued.{split_again, may_be_written}

module _ {JE JS : Type 0} (encryption_named : List ℕ → Option JE) (signing_named : List ℕ → Option JS) (text : List ℕ) (alg : JS) where
  not_none : (b : Bool) → bytes_eq text (codes "none") ≡ b → text ≢ codes "none" → signing_named text ≡ Some alg
      → cond b (Some algorithm.None) (option_or (option_map algorithm.Signature (signing_named text)) (option_map algorithm.Encryption (encryption_named text))) ≡ Some (algorithm.Signature alg)
  not_none true is other named = absurd (other ((bytes_eq-Decides text (codes "none")).0 is))
  not_none false is other named = ap (λ o. option_or (option_map algorithm.Signature o) (option_map algorithm.Encryption (encryption_named text))) named

  pub named_again : text ≢ codes "none" → signing_named text ≡ Some alg → algorithm_named encryption_named signing_named text ≡ Some (algorithm.Signature alg)
  named_again other named = not_none _ refl other named

  module _ (other : text ≢ codes "none") (named : signing_named text ≡ Some alg) where
    without_id : header_of encryption_named signing_named (map as_read (written_header text None)) ≡ Ok (signed_with alg None)
    unfolding header_of judged
    without_id = rw (named_again other named) refl

    with_id : (id : List ℕ) → header_of encryption_named signing_named (map as_read (written_header text (Some id))) ≡ Ok (signed_with alg (Some id))
    unfolding header_of judged
    with_id id = rw (named_again other named) refl

    back : (id : Option (List ℕ)) → header_of encryption_named signing_named (map as_read (written_header text id)) ≡ Ok (signed_with alg id)
    back None = without_id
    back (Some id) = with_id id

    values : (id : Option (List ℕ)) → All (λ (m : OutSeen). MayStand m.value) (written_header text id)
    values None = All-push (λ (m : OutSeen). MayStand m.value) [] _ (All-nil (λ (m : OutSeen). MayStand m.value)) (tt, lit≤ tt)
    values (Some id) = All-push (λ (m : OutSeen). MayStand m.value) (written_header text None) _ (All-push (λ (m : OutSeen). MayStand m.value) [] _ (All-nil (λ (m : OutSeen). MayStand m.value)) (tt, lit≤ tt)) (tt, lit≤ tt)

    pub header_again : (id : Option (List ℕ)) → All IsUtf8Member (written_header text id)
        → object_read (header_of encryption_named signing_named) (object_text (written_header text id)) ≡ Ok (signed_with alg id)
    header_again id texts =
        ap (λ o. o >>= header_of encryption_named signing_named) (split_again (written_header text id) (may_be_written (written_header text id) (values id) texts)) ∙ back id
