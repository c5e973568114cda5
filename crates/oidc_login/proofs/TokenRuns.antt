-- Parts of the run of a callback that the proofs name: a request with what follows it, and what follows the answer to the
-- token request.
use Rattle.std.specs.Prelude.{List, ◌∷◌}
use Rattle.oidc_oauth2.specs.Messages.{SeenRequest, SeenAnswer}
use Rattle.oidc_login.specs.Types.{SeenLoginClient, SiteTypes}
use Rattle.oidc_login.specs.Logins.{SeenLogin}
use Rattle.oidc_login.specs.SignedIn.{SeenSignedIn}
use Rattle.oidc_login.specs.Callback.{Meant, LoginRun, ◌passed_to◌, demand_run}

abbrev pub preceded_by : {A : Type 0} → SeenRequest → LoginRun A → LoginRun A
preceded_by request run = record { reply = run.reply; sent = request ∷ run.sent }

module _ {AC GC Key Use : Type 0} (types : SiteTypes AC GC Key Use) where
  abbrev pub token_run : SeenLoginClient Key → SeenLogin → List SeenAnswer → Meant (SeenSignedIn AC GC) → LoginRun (SeenSignedIn AC GC)
  token_run client login answers given = (given passed_to λ user. demand_run types client login.user_info user) answers
