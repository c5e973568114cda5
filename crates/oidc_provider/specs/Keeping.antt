-- What an authorization that is granted leaves of a provider double.
use Rattle.std.specs.Prelude.{◌≡◌, ℕ, List, Result, Ok}
use Rattle.oidc_pairs.specs.Pairs.{pairs}
use Rattle.serde_json.specs.Data.{Data}
use Rattle.oidc_members.specs.Seen.{SeenMember, OutSeen}
use Rattle.oidc_members.specs.declared.refusal.Refusal.{Refusal}
use Rattle.oidc_id_token_claims.specs.IdTokenClaims.{SeenIdTokenClaims}
use Rattle.oidc_user_info.specs.UserInfoClaims.{SeenUserInfoClaims}
use Rattle.oidc_provider.specs.Grants.{SeenGrant, with_grant}
use Rattle.oidc_provider.specs.Provider.{SeenProvider}
use Rattle.oidc_provider.specs.Authorization.{Asked, Allowed, authorization, callback_pairs, callback_query}
use Rattle.oidc_provider.specs.Issuing.{IsGranted}

-- It has one more grant, that of what was asked, and is else as it was; and the query is that of the grant's code and of the
-- state that was asked, and is read back as their pairs.
pub record Keeps {AC GC : Type 0} (additional : List SeenMember → Result AC Refusal) (gender : SeenMember → Result GC Refusal)
    (additional_out : AC → List OutSeen) (gender_data : GC → Data) (claims : SeenIdTokenClaims AC GC)
    (user_info : SeenUserInfoClaims AC GC) (asked : Asked) (old new : SeenProvider) (query : List ℕ) : Type 0 where
  pub allowed : Allowed
  pub was_allowed : authorization old asked ≡ Ok allowed
  pub grant : SeenGrant
  pub granted : IsGranted additional gender additional_out gender_data old.settings allowed asked.code asked.token claims user_info grant
  pub kept : new ≡ record old { grants = with_grant old.grants grant }
  pub own_query : query ≡ callback_query asked.code allowed.login.state
  pub named : pairs query ≡ callback_pairs asked.code allowed.login.state
