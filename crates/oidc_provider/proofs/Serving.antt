-- What a call leaves of what a provider will answer.
use Rattle.std.proofs.Common.{◌≡◌, [], ◌∷◌, Some, sym, ap}
use Rattle.oidc_oauth2.specs.Messages.{SeenRequest, SeenResponse}
use Rattle.oidc_oauth2.specs.Transport.{Leaves}
use Rattle.oidc_provider.specs.Provider.{SeenProvider}
use Rattle.oidc_provider.specs.Answers.{provider_answer, after, served}

-- it gave its answer to a request, and is what the table leaves
pub served_one : (old new : SeenProvider) (request : SeenRequest) (response : SeenResponse)
    → response ≡ (provider_answer old request).response → new ≡ after old request
    → Leaves (served old) (request ∷ []) (Some response ∷ []) (served new)
served_one old new request response answer is = record {
  gives = λ later i. Some (sym answer i) ∷ served (sym is i) later;
}

-- it gave none, and is as it was
pub served_none : (old new : SeenProvider) → new ≡ old → Leaves (served old) [] [] (served new)
served_none old new is = record { gives = λ later. ap (λ (p : SeenProvider). served p later) (sym is) }
