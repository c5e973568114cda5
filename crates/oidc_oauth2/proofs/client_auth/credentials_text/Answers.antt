use Rattle.oidc_oauth2.proofs.Credentials.{values_of_credentials}
use Rattle.oidc_oauth2.proofs.client_auth.credentials_text.Goals as goal

pub returns-clause-valid : goal.returns-clause-valid
returns-clause-valid c =
    rw (c.in_ok-encode_string.ensures.ok, c.in_ok-text.ensures.ok) (values_of_credentials _ c.as_bytes.ensures.utf8)
