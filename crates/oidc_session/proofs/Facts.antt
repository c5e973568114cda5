-- What each test of a logout token says, in both directions.
use Rattle.std.proofs.Common.{◌≡◌, ◌≢◌, ℕ, suc, ℤ, Bool, true, false, List, [], ◌∷◌, Option, None, Some, Ok, Err, refl, sym, ap, ◌∙◌, arith, inl, inr, ⊎_elim}
use Rattle.std.specs.Prelude.{◌⊎◌, not, ◌&&◌, ◌||◌, int_lt, ◌<ℤ◌, ◌≤ℤ◌, is_none, is_some, IsSome, Contains}
use Rattle.std.specs.List.{list_any, list_all}
use Rattle.std.specs.Str.{bytes_eq}
use Rattle.std.specs.Cmp.Lexicographic.{bytes_decides}
use Rattle.std.proofs.lemmas.Bool.{and_parts, and_from, or_cases, false≢true}
use Rattle.std.proofs.lemmas.Int.{ints}
use Rattle.std.proofs.lemmas.List.Elements.{All-weaker}
use Rattle.std.proofs.lemmas.List.Sums.{AllPass-from_list_all, list_all-from_AllPass}
use Rattle.std.proofs.lemmas.List.Folds.{list_any_at}
use Rattle.oidc_types.specs.declared.vocabulary.ClosedVocabulary.{Ghosts as Words}
use Rattle.oidc_keys.specs.Jwk.{Verdict}
use Rattle.oidc_keys.specs.declared.refusals.SignatureVerificationError.{SignatureVerificationError}
use Rattle.oidc_jwt.specs.declared.header.JsonWebTokenAlgorithm.{JsonWebTokenAlgorithm}
use Rattle.oidc_jwt.specs.declared.header.JsonWebTokenAlgorithm.TheVariants as algorithm
use Rattle.oidc_jwt.specs.declared.header.TokenHeader.{TokenHeader}
use Rattle.oidc_tokens.specs.Verification.{IsForAlone, is_alone_in}
use Rattle.oidc_session.specs.LogoutClaims.{SeenLogoutClaims}
use Rattle.oidc_session.specs.LogoutTokens.{SeenLogoutToken, is_logout_type, is_known_header, is_signed_by, fault_of, names_somebody}
use Rattle.oidc_session.specs.LogoutCauses.{AsksTooMuch, IsSignedBy}

pub not_true : (b : Bool) → not b ≡ true → b ≡ false
not_true true h = absurd (false≢true h)
not_true false h = refl

pub not_false : (b : Bool) → not b ≡ false → b ≡ true
not_false true h = refl
not_false false h = absurd (false≢true (sym h))

pub other_bytes : (xs ys : List ℕ) → bytes_eq xs ys ≡ false → xs ≢ ys
other_bytes xs ys h e = false≢true (sym h ∙ (bytes_decides xs ys).1 e)

false_of : (b : Bool) → (b ≡ true → ⊥) → b ≡ false
false_of true n = absurd (n refl)
false_of false n = refl

pub bytes_other : (xs ys : List ℕ) → xs ≢ ys → bytes_eq xs ys ≡ false
bytes_other xs ys n = false_of (bytes_eq xs ys) (λ t. n ((bytes_decides xs ys).0 t))

pub less : (a b : ℤ) → int_lt a b ≡ true → a <ℤ b
less a b h = grind (arith, ints)

pub less_back : (a b : ℤ) → a <ℤ b → int_lt a b ≡ true
less_back a b h = grind (arith, ints)

pub not_less : (a b : ℤ) → int_lt a b ≡ false → b ≤ℤ a
not_less a b h = grind (arith, ints)

pub not_less_back : (a b : ℤ) → b ≤ℤ a → int_lt a b ≡ false
not_less_back a b h = grind (arith, ints)

none_of : {A : Type 0} (o : Option A) → is_none o ≡ true → o ≡ None
none_of None h = refl
none_of (Some x) h = absurd (false≢true h)

-- ---- the header

some_there : (o : Option (List ℕ)) → is_none o ≡ false → o ≢ None
some_there None h e = false≢true (sym h)
some_there (Some x) h e = false≢true (ap is_none e)

by_parts : (crit : Bool) (cty : Option (List ℕ)) (known : Bool) (n : Bool) → is_none cty ≡ n → (not crit && n && known) ≡ false → (crit ≡ true) ⊎ ((cty ≢ None) ⊎ (known ≡ false))
by_parts true cty known n is h = inl refl
by_parts false cty known false is h = inr (inl (some_there cty is))
by_parts false cty known true is h = inr (inr h)

module _ {JE JS : Type 0} where
  pub known_parts : (h : TokenHeader JE JS) → is_known_header h ≡ true → (h.crit ≡ false) × (h.cty ≡ None) × (is_logout_type h.typ ≡ true)
  known_parts h e =
      let a = and_parts (not h.crit && is_none h.cty) (is_logout_type h.typ) e in
      let b = and_parts (not h.crit) (is_none h.cty) a.0 in
      (not_true h.crit b.0, none_of h.cty b.1, a.1)

  pub known_back : (h : TokenHeader JE JS) → h.crit ≡ false → h.cty ≡ None → is_logout_type h.typ ≡ true → is_known_header h ≡ true
  known_back h crit cty typ =
      and_from (not h.crit && is_none h.cty) (is_logout_type h.typ) (and_from (not h.crit) (is_none h.cty) (ap not crit) (ap is_none cty)) typ

  pub too_much : (h : TokenHeader JE JS) → is_known_header h ≡ false → AsksTooMuch h
  too_much h e = by_parts h.crit h.cty (is_logout_type h.typ) (is_none h.cty) refl e

  pub too_much_back : (h : TokenHeader JE JS) → AsksTooMuch h → is_known_header h ≡ false
  too_much_back h asks =
      false_of (is_known_header h) (λ known.
      let parts = known_parts h known in
      ⊎_elim
      (λ crit. false≢true (sym parts.0 ∙ crit))
      (λ other. ⊎_elim (λ cty. cty parts.1) (λ typ. false≢true (sym typ ∙ parts.2)) other)
      asks)

-- ---- the audience

found_at : (id : List ℕ) (audiences : List (List ℕ)) → list_any (λ a. bytes_eq a id) audiences ≡ true → Contains audiences id
found_at id [] h = absurd (false≢true h)
found_at id (a ∷ rest) h =
    ⊎_elim
    (λ here. (0, omega arith, (bytes_decides a id).0 here))
    (λ there. let k : Contains rest id = found_at id rest there in (suc k.0, omega (arith, k.1), k.2))
    (or_cases (bytes_eq a id) (list_any (λ a. bytes_eq a id) rest) h)

same_test : (id : List ℕ) → bytes_eq id id ≡ true
same_test id = (bytes_decides id id).1 refl

pub alone : (id : List ℕ) (audiences : List (List ℕ)) → is_alone_in id audiences ≡ true → IsForAlone id audiences
alone id audiences h =
    let parts = and_parts (list_any (λ a. bytes_eq a id) audiences) (list_all (λ a. bytes_eq a id) audiences) h in
    record {
      one = found_at id audiences parts.0;
      no_other = All-weaker (λ a. bytes_eq a id ≡ true) (λ a. a ≡ id) (λ a e. (bytes_decides a id).0 e) audiences (AllPass-from_list_all (λ a. bytes_eq a id) audiences parts.1);
    }

pub alone_back : (id : List ℕ) (audiences : List (List ℕ)) → IsForAlone id audiences → is_alone_in id audiences ≡ true
alone_back id audiences is =
    and_from (list_any (λ a. bytes_eq a id) audiences) (list_all (λ a. bytes_eq a id) audiences)
    (list_any_at (λ a. bytes_eq a id) audiences is.one.0 id is.one.1 (ap (λ a. bytes_eq a id) is.one.2 ∙ same_test id))
    (list_all-from_AllPass (λ a. bytes_eq a id) audiences (All-weaker (λ a. a ≡ id) (λ a. bytes_eq a id ≡ true) (λ a e. (bytes_decides a id).1 e) audiences is.no_other))

-- ---- the algorithm and the signature

module _ {Algorithm : Type 0} (words : Words Algorithm) (own : Algorithm) where
  signed_by : {JE : Type 0} (alg : JsonWebTokenAlgorithm JE Algorithm) → is_signed_by words own alg ≡ true
      → (a : Algorithm) × (alg ≡ algorithm.Signature a) × (words.as_ref a ≡ words.as_ref own)
  signed_by (algorithm.Signature a) h = (a, refl, (bytes_decides (words.as_ref a) (words.as_ref own)).0 h)
  signed_by (algorithm.Encryption a) h = absurd (false≢true h)
  signed_by algorithm.None h = absurd (false≢true h)

  pub signed_of : (token : SeenLogoutToken Algorithm) → is_signed_by words own token.header.alg ≡ true → IsSignedBy words own token
  signed_of token h = signed_by token.header.alg h

  pub signed_back : (token : SeenLogoutToken Algorithm) → IsSignedBy words own token → is_signed_by words own token.header.alg ≡ true
  signed_back token is = ap (is_signed_by words own) is.1 ∙ (bytes_decides (words.as_ref is.0) (words.as_ref own)).1 is.2

  pub unsigned : (token : SeenLogoutToken Algorithm) → is_signed_by words own token.header.alg ≡ false → IsSignedBy words own token → ⊥
  unsigned token h is = false≢true (sym h ∙ signed_back token is)

  pub unsigned_back : (token : SeenLogoutToken Algorithm) → (IsSignedBy words own token → ⊥) → is_signed_by words own token.header.alg ≡ false
  unsigned_back token n = false_of (is_signed_by words own token.header.alg) (λ h. n (signed_of token h))

pub verdict_ok : (v : Verdict) → fault_of v ≡ None → v ≡ Ok tt
verdict_ok (Ok u) h = refl
verdict_ok (Err e) h = absurd cc

pub verdict_err : (v : Verdict) (e : SignatureVerificationError) → fault_of v ≡ Some e → v ≡ Err e
verdict_err (Ok u) e h = absurd cc
verdict_err (Err a) e h = cc

-- ---- the names

pub some_of : {A : Type 0} (o : Option A) → is_some o ≡ true → IsSome o
some_of o h = h

pub named_of : (claims : SeenLogoutClaims) → names_somebody claims ≡ true → IsSome claims.subject ⊎ IsSome claims.provider_session
named_of claims h = or_cases (is_some claims.subject) (is_some claims.provider_session) h

or_true : (a b : Bool) → (a ≡ true) ⊎ (b ≡ true) → (a || b) ≡ true
or_true true b h = refl
or_true false b h = ⊎_elim (λ e. absurd (false≢true e)) (λ e. e) h

pub named_back : (claims : SeenLogoutClaims) → IsSome claims.subject ⊎ IsSome claims.provider_session → names_somebody claims ≡ true
named_back claims h = or_true (is_some claims.subject) (is_some claims.provider_session) h

unsome : {A : Type 0} (o : Option A) → is_some o ≡ false → o ≡ None
unsome None h = refl
unsome (Some x) h = absurd (false≢true (sym h))

neither : (a b : Bool) → (a || b) ≡ false → (a ≡ false) × (b ≡ false)
neither true b h = absurd (false≢true (sym h))
neither false b h = (refl, h)

pub nobody_of : (claims : SeenLogoutClaims) → names_somebody claims ≡ false → (claims.subject ≡ None) × (claims.provider_session ≡ None)
nobody_of claims h =
    let n = neither (is_some claims.subject) (is_some claims.provider_session) h in
    (unsome claims.subject n.0, unsome claims.provider_session n.1)

pub nobody_back : (claims : SeenLogoutClaims) → claims.subject ≡ None → claims.provider_session ≡ None → names_somebody claims ≡ false
nobody_back claims s p = λ i. is_some (s i) || is_some (p i)
