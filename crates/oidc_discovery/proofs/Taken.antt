-- What holds of metadata that passed the checks.
use Rattle.std.proofs.Common.{◌≡◌, Bool, true, false, not, List, ℕ, Option, None, Some, Result, Ok, Err, refl}
use Rattle.std.proofs.lemmas.Slice.Eq.{bytes_eq-Decides}
use Rattle.oidc_oauth2.specs.Replies.{◌>>◌, ◌when◌}
use Rattle.oidc_discovery.specs.declared.errors.MetadataUrl.{MetadataUrl}
use Rattle.oidc_discovery.specs.declared.urls.UrlFault.{UrlFault}
use Rattle.oidc_discovery.specs.Metadata.{SeenMetadata}
use Rattle.oidc_discovery.specs.Documents.{IsTaken, checked, unless_faulty}

first_ok : {F : Type 0} (first next : Result (Unit {0}) F) → first >> next ≡ Ok tt → first ≡ Ok tt
first_ok (Ok u) next e = refl
first_ok (Err error) next e = cc

then_ok : {F : Type 0} (first next : Result (Unit {0}) F) → first >> next ≡ Ok tt → next ≡ Ok tt
then_ok (Ok u) next e = e
then_ok (Err error) next e = cc

when_ok : {F : Type 0} (error : F) (test : Bool) → (error when test) ≡ Ok tt → test ≡ false
when_ok error true e = cc
when_ok error false e = refl

for_ok : (url : MetadataUrl) (fault : Option UrlFault) → unless_faulty url fault ≡ Ok tt → fault ≡ None
for_ok url None e = refl
for_ok url (Some fault) e = cc

not_false : (test : Bool) → not test ≡ false → test ≡ true
not_false true e = refl
not_false false e = cc

pub checked_taken : (asked : List ℕ) (said : SeenMetadata) → checked asked said ≡ Ok tt → IsTaken asked said
unfolding checked
checked_taken asked said e =
    let urls = then_ok _ _ e in
    let authorization = then_ok _ _ (first_ok _ _ urls) in
    let token = then_ok _ _ authorization in
    let userinfo = then_ok _ _ token in
    let keys = then_ok _ _ userinfo in
    record {
      issuer = (bytes_eq-Decides said.needed.issuer.text asked).0 (not_false _ (when_ok _ _ (first_ok _ _ e)));
      issuer_url = for_ok _ _ (first_ok _ _ (first_ok _ _ urls));
      authorization_url = for_ok _ _ (first_ok _ _ authorization);
      token_url = for_ok _ _ (first_ok _ _ token);
      userinfo_url = for_ok _ _ (first_ok _ _ userinfo);
      keys_url = for_ok _ _ (first_ok _ _ keys);
      end_session_url = for_ok _ _ (then_ok _ _ keys);
      challenges = when_ok _ _ (then_ok _ _ urls);
    }
