use Rattle.std.proofs.Common.{◌≡◌, ◌∙◌, Ok, Err, sym, ap, subst}
use Rattle.std.specs.Option.{option_copied}
use Rattle.oidc_members.specs.Write.{any_float}
use Rattle.oidc_jwt.specs.Header.{written_header}
use Rattle.oidc_jwt.specs.Issuing.{issued}
use Rattle.oidc_tokens.specs.Hashes.{hashing, with_hashes}
use Rattle.oidc_id_token_claims.specs.IdTokenClaims.{id_token_members}
use Rattle.oidc_tokens.specs.Signatures.{meanings}
use Rattle.oidc_tokens.proofs.IssuedClaims.{issues_after, unissued_after}
use Rattle.oidc_tokens.proofs.IssuedAccepted.{DifferInHashes, hashes_differ, range_kept, accepts_issued}
use Rattle.oidc_id_token_claims.proofs.Theorems.{comes_back, members_free}
use Rattle.oidc_tokens.proofs.id_token.IdToken.new.Goals as goal

pub returns-in-Ok-of_token : goal.returns-in-Ok-of_token
returns-in-Ok-of_token g c =
    let key = c.args.key.now in
    let alg = c.args.alg in
    let claims = c.args.claims in
    let alg_text = g.JS.ClosedVocabulary.as_ref in
    let additional = g.AC.AdditionalClaims in
    let gender = g.GC.GenderClaim in
    let keys = g.S.VerificationKey.JsonWebKey in
    let signs = g.S.PrivateSigningKey.signs key alg in
    let checker = g.S.PrivateSigningKey.verification_key key in
    let token = option_copied c.args.access_token in
    let code = option_copied c.args.code in
    let hashed = with_hashes (hashing (alg_text alg) (keys.hash_of checker alg)) token code claims in
    let is : Ok c.in_ok-claims.claims ≡ hashed =
    subst (λ k. Ok c.in_ok-claims.claims ≡ with_hashes (hashing (alg_text alg) (keys.hash_of k alg)) token code claims) c.in-Ok.ensures.key c.in_ok-claims.ensures in
    let differ = hashes_differ (hashing (alg_text alg) (keys.hash_of checker alg)) token code claims c.in_ok-claims.claims (sym is) in
    let made = c.in-Ok-new.ensures in
    let law = g.met.AC.AdditionalClaims in
    let gender_law = g.met.GC.GenderClaim in
    let k = meanings keys g.S.VerificationKey.KeyUse.JsonWebKeyUse g.JS.JwsSigningAlgorithm g.JS.ClosedVocabulary g.JS.KeyType.ClosedVocabulary in
    rw c.in-Ok-of_token.ensures (record {
      issued = λ free.
          issues_after hashed c.in_ok-claims.claims (λ x. issued {JE = g.row.JE.Denot} alg_text (id_token_members additional.write_of gender.write_of) signs (keys.key_id checker) alg x) (Ok c.in-Ok-new.token) is
          (made.issued (members_free additional.write_of gender.write_of gender_law.written_is_value c.in_ok-claims.claims (ap (λ a. any_float (additional.write_of a)) differ.additional_claims ∙ free)));
      claims = sym is ∙ ap Ok (sym made.payload);
      signed = made.signed;
      header = made.header;
      head = made.head;
      text = made.text;
      refused = tt;
      reads_back = λ reading named range.
          made.reads_back reading named
          (comes_back additional.read_of additional.write_of gender.read_of gender.write_of law.reads_back law.stays_additional gender_law.reads_back gender_law.written_is_value c.in_ok-claims.claims
          (range_kept additional.write_of claims c.in_ok-claims.claims differ range) reading);
      accepted = λ v allows now expects.
          accepts_issued k v allows now alg checker claims c.in-Ok-new.token expects (subst (λ p. DifferInHashes p claims) (sym made.payload) differ) made.header
          (g.met.S.PrivateSigningKey.signs_truly key alg _ _ made.signed);
    })

pub returns-clause-issued : goal.returns-clause-issued
returns-clause-issued g c = λ free.
    let key = c.args.key.now in
    let alg = c.args.alg in
    let claims = c.args.claims in
    let alg_text = g.JS.ClosedVocabulary.as_ref in
    let additional = g.AC.AdditionalClaims in
    let gender = g.GC.GenderClaim in
    let keys = g.S.VerificationKey.JsonWebKey in
    let signs = g.S.PrivateSigningKey.signs key alg in
    let checker = g.S.PrivateSigningKey.verification_key key in
    let token = option_copied c.args.access_token in
    let code = option_copied c.args.code in
    let hashed = with_hashes (hashing (alg_text alg) (keys.hash_of checker alg)) token code claims in
    let is : Ok c.in_ok-claims.claims ≡ hashed =
    subst (λ k. Ok c.in_ok-claims.claims ≡ with_hashes (hashing (alg_text alg) (keys.hash_of k alg)) token code claims) c.in-Ok.ensures.key c.in_ok-claims.ensures in
    let differ = hashes_differ (hashing (alg_text alg) (keys.hash_of checker alg)) token code claims c.in_ok-claims.claims (sym is) in
    issues_after hashed c.in_ok-claims.claims (λ x. issued {JE = g.row.JE.Denot} alg_text (id_token_members additional.write_of gender.write_of) signs (keys.key_id checker) alg x) (Err c.in-Err-new.error) is
    (c.in-Err-new.ensures.issued
    (members_free additional.write_of gender.write_of g.met.GC.GenderClaim.written_is_value c.in_ok-claims.claims (ap (λ a. any_float (additional.write_of a)) differ.additional_claims ∙ free)))

pub returns-clause-refused : goal.returns-clause-refused
returns-clause-refused g c =
    let alg = c.args.alg in
    let alg_text = g.JS.ClosedVocabulary.as_ref in
    let keys = g.S.VerificationKey.JsonWebKey in
    let checker = g.S.PrivateSigningKey.verification_key c.args.key.now in
    let hashed = with_hashes (hashing (alg_text alg) (keys.hash_of checker alg)) (option_copied c.args.access_token) (option_copied c.args.code) c.args.claims in
    let is : Ok c.in_ok-claims.claims ≡ hashed =
    subst (λ k. Ok c.in_ok-claims.claims ≡ with_hashes (hashing (alg_text alg) (keys.hash_of k alg)) (option_copied c.args.access_token) (option_copied c.args.code) c.args.claims) c.in-Ok.ensures.key c.in_ok-claims.ensures in
    unissued_after hashed c.in_ok-claims.claims (written_header (alg_text alg) (keys.key_id checker)) (g.S.PrivateSigningKey.signs c.args.key.now alg) c.in-Err-new.error is c.in-Err-new.ensures.refused
