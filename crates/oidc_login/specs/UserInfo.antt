-- The request for user info behind a login that asks for it: OpenID Connect Core 1.0 sections 5.3.1, 5.3.2 and
-- 5.3.4.
use Rattle.std.specs.Prelude.{ℕ, List, Option, Some, option_map}
use Rattle.oidc_user_info.specs.InfoRequests.{SeenInfoRequest}
use Rattle.oidc_client.specs.Client.{info_request_at}
use Rattle.oidc_login.specs.Types.{SeenLoginClient}
use Rattle.oidc_login.specs.declared.types.UserInfoDemand.{UserInfoDemand}

module _ {Key : Type 0} where
  -- a request with the four values of a demand
  abbrev pub demanded : UserInfoDemand → SeenInfoRequest Key → SeenInfoRequest Key
  demanded demand ask = record ask {
    response_type = demand.response_type;
    demand = record ask.demand {
      signed = demand.signed;
      verifier = record ask.demand.verifier {
        issuer_match = demand.issuer_match;
        audience_match = demand.audience_match;
      };
    };
  }

  -- The request to the client's endpoint, with this access token, for what is demanded of user info about this
  -- subject. A client without an endpoint has none, and no login that asks for it: `begin` refuses it.
  abbrev pub info_ask : SeenLoginClient Key → UserInfoDemand → List ℕ → List ℕ → Option (SeenInfoRequest Key)
  info_ask client demand access_token subject =
      option_map (λ endpoint. demanded demand (info_request_at client access_token (Some subject) endpoint))
      client.user_info_url
