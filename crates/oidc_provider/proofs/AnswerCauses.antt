-- Why a provider double answers as it does, by its table, and back.
use Rattle.std.proofs.Common.{◌≡◌, ◌⊎◌, inl, inr, ℕ, List, ◌++◌, take, drop, Bool, true, false, ◌&&◌, not, cond, Option, None, Some, refl, ap, sym, ◌∙◌}
use Rattle.std.specs.Prelude.{codes, nat_eq, option_and_then}
use Rattle.std.specs.Bool.{then_some}
use Rattle.std.specs.List.{starts_with}
use Rattle.std.specs.Option.{option_map_or}
use Rattle.std.specs.Str.{bytes_eq}
use Rattle.std.specs.Cmp.Lexicographic.{bytes_decides}
use Rattle.std.proofs.lemmas.Bool.{false≢true}
use Rattle.std.proofs.lemmas.List.{take-append-drop}
use Rattle.std.proofs.lemmas.List.Folds.{Any-from_list_any, list_any-from_Any}
use Rattle.url.specs.Parts.{serialize}
use Rattle.http_header.specs.FieldValue.{is_visible_text}
use Rattle.oidc_pairs.specs.Pairs.{pairs}
use Rattle.oidc_oauth2.specs.Messages.{SeenRequest, SeenResponse}
use Rattle.oidc_oauth2.specs.ClientAuth.{basic_credentials}
use Rattle.oidc_oauth2.specs.Pkce.{s256}
use Rattle.oidc_provider.specs.Grants.{SeenGrant, grant_of_code, grant_of_token, redeemed_by}
use Rattle.oidc_provider.specs.Provider.{SeenProvider}
use Rattle.oidc_provider.specs.Values.{only, is_it, says}
use Rattle.oidc_provider.specs.Answers.{Answer, credentials_in, authenticates_by, is_authenticated, is_of_client, asks_for_tokens, asks_for_info, proves, may_redeem, asked_grant, bearer_in, borne_grant, provider_answer, after}
use Rattle.oidc_provider.specs.AnswerCauses.{Reason, no_client, other_grant_type, no_grant, redeems, bears, no_token, nothing_asked, answer_for, IsByHeader, IsByBody, IsMadeBy, AsksForTokens, AsksAsClient, AsksByCode, IsFor, AsksForInfo, BearsTokenOf, Cause, IsAnswered, HasCause}
use Rattle.oidc_provider.specs.declared.settings.Registration.{Registration}
use Rattle.oidc_provider.proofs.Table.{by_rows, answer_by_rows}
use Rattle.oidc_provider.proofs.Registered.{same_text, equal_texts}

-- ---- words of the table

parts : (a b : Bool) → (a && b) ≡ true → (a ≡ true) × (b ≡ true)
parts true b h = (refl, h)
parts false b h = absurd (false≢true h)

whole : (a b : Bool) → a ≡ true → b ≡ true → (a && b) ≡ true
whole a b ea eb = rw (ea, eb) refl

shown : (b : Bool) → not b ≡ true → b ≡ false
shown true e = absurd (false≢true e)
shown false e = refl

hidden : (b : Bool) → b ≡ false → not b ≡ true
hidden b e = rw e refl

not_true : (b : Bool) → (b ≡ true → ⊥) → b ≡ false
not_true true never = absurd (never refl)
not_true false never = refl

not_some : {A : Type 0} (o : Option A) → ((x : A) → o ≡ Some x → ⊥) → o ≡ None
not_some None never = refl
not_some (Some x) never = absurd (never x refl)

same_Some : {A : Type 0} (x y : A) → ◌≡◌ {A = Option A} (Some x) (Some y) → x ≡ y
same_Some x y e = cc

none_is_some : {A : Type 0} (y : A) → ◌≡◌ {A = Option A} None (Some y) → ⊥
none_is_some y e = cc

bound : {A B : Type 0} (o : Option A) (f : A → Option B) (y : B) → option_and_then f o ≡ Some y → (x : A) × (o ≡ Some x) × (f x ≡ Some y)
bound None f y is = absurd (none_is_some y is)
bound (Some x) f y is = (x, refl, is)

taken : {A : Type 0} (b : Bool) (x y : A) → then_some b x ≡ Some y → (b ≡ true) × (x ≡ y)
taken true x y is = (refl, same_Some x y is)
taken false x y is = absurd (none_is_some y is)

mapped : {A : Type 0} (o : Option A) (f : A → Bool) → option_map_or f o false ≡ true → (x : A) × (o ≡ Some x) × (f x ≡ true)
mapped None f is = absurd (false≢true is)
mapped (Some x) f is = (x, refl, is)

said : (found : Option (List ℕ)) (value : List ℕ) → is_it found value ≡ true → found ≡ Some value
said None value h = absurd (false≢true h)
said (Some text) value h = ap Some ((bytes_decides text value).0 h)

has_it : (found : Option (List ℕ)) (value : List ℕ) → found ≡ Some value → is_it found value ≡ true
has_it found value is = ap (λ o. is_it o value) is ∙ same_text value

-- ---- the token of bearer credentials

abbrev scheme : List ℕ
scheme = codes "Bearer "

cut : (b : Bool) (rest token : List ℕ) → cond b (Some rest) None ≡ Some token → (b ≡ true) × (rest ≡ token)
cut true rest token is = (refl, same_Some rest token is)
cut false rest token is = absurd (none_is_some token is)

begins : (text : List ℕ) → starts_with nat_eq text scheme ≡ true → text ≡ scheme ++ drop 7 text
begins text is =
    let same : scheme ≡ take 7 text = (bytes_decides scheme (take 7 text)).0 is in
    sym (take-append-drop 7 text) ∙ ap (λ front. front ++ drop 7 text) (sym same)

bearer_forth : (text token : List ℕ) → bearer_in text ≡ Some token → (text ≡ scheme ++ token) × (is_visible_text (scheme ++ token) ≡ true)
bearer_forth text token is =
    let found = cut (is_visible_text text && starts_with nat_eq text scheme) (drop 7 text) token is in
    let both = parts (is_visible_text text) (starts_with nat_eq text scheme) found.0 in
    let whole_text : text ≡ scheme ++ token = begins text both.1 ∙ ap (λ rest. scheme ++ rest) found.1 in
    (whole_text, ap is_visible_text (sym whole_text) ∙ both.0)

bearer_back : (token : List ℕ) → is_visible_text (scheme ++ token) ≡ true → bearer_in (scheme ++ token) ≡ Some token
bearer_back token visible = ap (λ b. cond (b && true) (Some token) None) visible

module _ (p : SeenProvider) (r : SeenRequest) where
  -- ---- who asks

  proof_of : (o : Option (List ℕ)) (client : Registration) → credentials_in r ≡ o → authenticates_by o (pairs r.body) client ≡ true
      → IsByHeader p r client ⊎ IsByBody p r client
  proof_of (Some credentials) client is holds =
      inl (is ∙ ap Some ((bytes_decides credentials (basic_credentials client.client_id client.secret)).0 holds))
  proof_of None client is holds =
      let both = parts (says (pairs r.body) (codes "client_id") client.client_id) (says (pairs r.body) (codes "client_secret") client.secret) holds in
      inr (record {
        no_header = is;
        id = said (only (pairs r.body) (codes "client_id")) client.client_id both.0;
        secret = said (only (pairs r.body) (codes "client_secret")) client.secret both.1;
      })

  proof_back : (client : Registration) → IsByHeader p r client ⊎ IsByBody p r client
      → authenticates_by (credentials_in r) (pairs r.body) client ≡ true
  proof_back client (inl is) =
      ap (λ o. authenticates_by o (pairs r.body) client) is ∙ same_text (basic_credentials client.client_id client.secret)
  proof_back client (inr x) =
      ap (λ o. authenticates_by o (pairs r.body) client) x.no_header
      ∙ whole (says (pairs r.body) (codes "client_id") client.client_id) (says (pairs r.body) (codes "client_secret") client.secret)
      (has_it (only (pairs r.body) (codes "client_id")) client.client_id x.id)
      (has_it (only (pairs r.body) (codes "client_secret")) client.secret x.secret)

  abbrev by_credentials : Registration → Bool
  by_credentials client = authenticates_by (credentials_in r) (pairs r.body) client

  maker : is_authenticated p.registrations r ≡ true → (client : Registration) × IsMadeBy p r client
  maker is =
      let (k, client, lt, at, holds) = Any-from_list_any by_credentials p.registrations is in
      (client, record { registered = (k, lt, at); authenticated = proof_of (credentials_in r) client refl holds })

  made : (client : Registration) → IsMadeBy p r client → is_authenticated p.registrations r ≡ true
  made client x =
      list_any-from_Any by_credentials p.registrations
      (x.registered.0, client, x.registered.1, x.registered.2, proof_back client x.authenticated)

  own_maker : (id : List ℕ) → is_of_client p.registrations r id ≡ true
      → (client : Registration) × IsMadeBy p r client × (client.client_id ≡ id)
  own_maker id is =
      let (k, client, lt, at, holds) = Any-from_list_any (λ c. bytes_eq c.client_id id && by_credentials c) p.registrations is in
      let both = parts (bytes_eq client.client_id id) (by_credentials client) holds in (
        client,
        record { registered = (k, lt, at); authenticated = proof_of (credentials_in r) client refl both.1 },
        (bytes_decides client.client_id id).0 both.0,
      )

  made_own : (client : Registration) (id : List ℕ) → IsMadeBy p r client → client.client_id ≡ id → is_of_client p.registrations r id ≡ true
  made_own client id x own =
      list_any-from_Any (λ c. bytes_eq c.client_id id && by_credentials c) p.registrations (
        x.registered.0,
        client,
        x.registered.1,
        x.registered.2,
        whole (bytes_eq client.client_id id) (by_credentials client) (equal_texts client.client_id id own) (proof_back client x.authenticated),
      )

  -- ---- for what

  tokens_forth : asks_for_tokens p r ≡ true → AsksForTokens p r
  tokens_forth is =
      let both = parts (bytes_eq r.method (codes "POST")) (bytes_eq r.address (serialize p.settings.token.url)) is in record {
        method = (bytes_decides r.method (codes "POST")).0 both.0;
        address = (bytes_decides r.address (serialize p.settings.token.url)).0 both.1;
      }

  tokens_back : AsksForTokens p r → asks_for_tokens p r ≡ true
  tokens_back x =
      whole (bytes_eq r.method (codes "POST")) (bytes_eq r.address (serialize p.settings.token.url))
      (equal_texts r.method (codes "POST") x.method) (equal_texts r.address (serialize p.settings.token.url) x.address)

  info_forth : asks_for_info p r ≡ true → AsksForInfo p r
  info_forth is =
      let both = parts (bytes_eq r.method (codes "GET")) (bytes_eq r.address p.settings.user_info.text) is in record {
        method = (bytes_decides r.method (codes "GET")).0 both.0;
        address = (bytes_decides r.address p.settings.user_info.text).0 both.1;
      }

  info_back : AsksForInfo p r → asks_for_info p r ≡ true
  info_back x =
      whole (bytes_eq r.method (codes "GET")) (bytes_eq r.address p.settings.user_info.text)
      (equal_texts r.method (codes "GET") x.method) (equal_texts r.address p.settings.user_info.text x.address)

  -- a GET asks for no tokens
  no_post : AsksForInfo p r → asks_for_tokens p r ≡ false
  no_post x = ap (λ method. bytes_eq method (codes "POST") && bytes_eq r.address (serialize p.settings.token.url)) x.method

  abbrev grant_type : Bool
  grant_type = says (pairs r.body) (codes "grant_type") (codes "authorization_code")

  type_forth : grant_type ≡ true → only (pairs r.body) (codes "grant_type") ≡ Some (codes "authorization_code")
  type_forth is = said (only (pairs r.body) (codes "grant_type")) (codes "authorization_code") is

  type_back : only (pairs r.body) (codes "grant_type") ≡ Some (codes "authorization_code") → grant_type ≡ true
  type_back is = has_it (only (pairs r.body) (codes "grant_type")) (codes "authorization_code") is

  -- ---- the grant that is redeemed

  abbrev if_redeemable : SeenGrant → Option SeenGrant
  if_redeemable grant = then_some (may_redeem p r grant) grant

  is_for_by : (code : List ℕ) (grant : SeenGrant) → only (pairs r.body) (codes "code") ≡ Some code → grant_of_code p.grants code ≡ Some grant
      → may_redeem p r grant ≡ true → IsFor p r grant
  is_for_by code grant own_code granted may =
      let last = parts (not grant.redeemed && is_of_client p.registrations r grant.client && says (pairs r.body) (codes "redirect_uri") grant.redirect) (proves p r grant) may in
      let third = parts (not grant.redeemed && is_of_client p.registrations r grant.client) (says (pairs r.body) (codes "redirect_uri") grant.redirect) last.0 in
      let first = parts (not grant.redeemed) (is_of_client p.registrations r grant.client) third.0 in
      let (client, maker_is, own) = own_maker grant.client first.1 in
      let (verifier, own_verifier, same) = mapped (only (pairs r.body) (codes "code_verifier")) (λ text. bytes_eq (s256 text) grant.challenge) last.1 in record {
        code = code;
        own_code = own_code;
        granted = granted;
        unredeemed = shown grant.redeemed first.0;
        client = client;
        made = maker_is;
        own_client = own;
        own_redirect = said (only (pairs r.body) (codes "redirect_uri")) grant.redirect third.1;
        verifier = verifier;
        own_verifier = own_verifier;
        proved = (bytes_decides (s256 verifier) grant.challenge).0 same;
      }

  grant_forth : (grant : SeenGrant) → asked_grant p r ≡ Some grant → IsFor p r grant
  grant_forth grant is =
      let (found, of_code, redeemable) = bound (option_and_then (grant_of_code p.grants) (only (pairs r.body) (codes "code"))) if_redeemable grant is in
      let (code, own_code, granted) = bound (only (pairs r.body) (codes "code")) (grant_of_code p.grants) found of_code in
      let (may, same) = taken (may_redeem p r found) found grant redeemable in
      is_for_by code grant own_code (granted ∙ ap Some same) (ap (may_redeem p r) (sym same) ∙ may)

  may_back : (grant : SeenGrant) → IsFor p r grant → may_redeem p r grant ≡ true
  may_back grant x =
      whole (not grant.redeemed && is_of_client p.registrations r grant.client && says (pairs r.body) (codes "redirect_uri") grant.redirect) (proves p r grant)
      (whole (not grant.redeemed && is_of_client p.registrations r grant.client) (says (pairs r.body) (codes "redirect_uri") grant.redirect)
      (whole (not grant.redeemed) (is_of_client p.registrations r grant.client) (hidden grant.redeemed x.unredeemed) (made_own x.client grant.client x.made x.own_client))
      (has_it (only (pairs r.body) (codes "redirect_uri")) grant.redirect x.own_redirect))
      (ap (λ o. option_map_or (λ text. bytes_eq (s256 text) grant.challenge) o false) x.own_verifier
      ∙ equal_texts (s256 x.verifier) grant.challenge x.proved)

  grant_back : (grant : SeenGrant) → IsFor p r grant → asked_grant p r ≡ Some grant
  grant_back grant x =
      ap (λ o. option_and_then if_redeemable (option_and_then (grant_of_code p.grants) o)) x.own_code
      ∙ ap (λ o. option_and_then if_redeemable o) x.granted
      ∙ ap (λ b. then_some b grant) (may_back grant x)

  -- ---- the grant whose token is borne

  abbrev if_redeemed : SeenGrant → Option SeenGrant
  if_redeemed grant = then_some grant.redeemed grant

  bears_by : (credentials token : List ℕ) (grant : SeenGrant) → credentials_in r ≡ Some credentials → bearer_in credentials ≡ Some token
      → grant_of_token p.grants token ≡ Some grant → grant.redeemed ≡ true → BearsTokenOf p r grant
  bears_by credentials token grant header borne granted redeemed =
      let (text, visible) = bearer_forth credentials token borne in record {
        token = token;
        header = header ∙ ap Some text;
        visible = visible;
        granted = granted;
        redeemed = redeemed;
      }

  borne_forth : (grant : SeenGrant) → borne_grant p r ≡ Some grant → BearsTokenOf p r grant
  borne_forth grant is =
      let (found, of_token, redeemable) = bound (option_and_then (grant_of_token p.grants) (option_and_then bearer_in (credentials_in r))) if_redeemed grant is in
      let (token, borne, granted) = bound (option_and_then bearer_in (credentials_in r)) (grant_of_token p.grants) found of_token in
      let (credentials, header, read) = bound (credentials_in r) bearer_in token borne in
      let (redeemed, same) = taken found.redeemed found grant redeemable in
      bears_by credentials token grant header read (granted ∙ ap Some same) (ap (λ (g : SeenGrant). g.redeemed) (sym same) ∙ redeemed)

  borne_back : (grant : SeenGrant) → BearsTokenOf p r grant → borne_grant p r ≡ Some grant
  borne_back grant x =
      ap (λ o. option_and_then if_redeemed (option_and_then (grant_of_token p.grants) (option_and_then bearer_in o))) x.header
      ∙ ap (λ o. option_and_then if_redeemed (option_and_then (grant_of_token p.grants) o)) (bearer_back x.token x.visible)
      ∙ ap (λ o. option_and_then if_redeemed o) x.granted
      ∙ ap (λ b. then_some b grant) x.redeemed

  -- ---- the rows

  module _ (t a g : Bool) (k : Option SeenGrant) (i : Bool) (b : Option SeenGrant) (tokens : asks_for_tokens p r ≡ t)
      (client : is_authenticated p.registrations r ≡ a) (code : grant_type ≡ g) (grant : asked_grant p r ≡ k)
      (info : asks_for_info p r ≡ i) (borne : borne_grant p r ≡ b) where
    answer_at : provider_answer p r ≡ by_rows t a g k i b
    answer_at = answer_by_rows p r ∙ (λ j. by_rows (tokens j) (client j) (code j) (grant j) (info j) (borne j))

  -- the answer is the one for a reason
  abbrev Gives : Reason → Type 0
  Gives reason = provider_answer p r ≡ answer_for reason

  row_no_client : asks_for_tokens p r ≡ true → is_authenticated p.registrations r ≡ false → Gives no_client
  row_no_client tokens client = answer_at true false _ _ _ _ tokens client refl refl refl refl

  row_other_type : asks_for_tokens p r ≡ true → is_authenticated p.registrations r ≡ true → grant_type ≡ false → Gives other_grant_type
  row_other_type tokens client code = answer_at true true false _ _ _ tokens client code refl refl refl

  row_no_grant : asks_for_tokens p r ≡ true → is_authenticated p.registrations r ≡ true → grant_type ≡ true → asked_grant p r ≡ None → Gives no_grant
  row_no_grant tokens client code grant = answer_at true true true None _ _ tokens client code grant refl refl

  row_redeems : (g : SeenGrant) → asks_for_tokens p r ≡ true → is_authenticated p.registrations r ≡ true → grant_type ≡ true → asked_grant p r ≡ Some g
      → Gives (redeems g)
  row_redeems g tokens client code grant = answer_at true true true (Some g) _ _ tokens client code grant refl refl

  row_bears : (g : SeenGrant) → asks_for_tokens p r ≡ false → asks_for_info p r ≡ true → borne_grant p r ≡ Some g → Gives (bears g)
  row_bears g tokens info borne = answer_at false _ _ _ true (Some g) tokens refl refl refl info borne

  row_no_token : asks_for_tokens p r ≡ false → asks_for_info p r ≡ true → borne_grant p r ≡ None → Gives no_token
  row_no_token tokens info borne = answer_at false _ _ _ true None tokens refl refl refl info borne

  row_nothing : asks_for_tokens p r ≡ false → asks_for_info p r ≡ false → Gives nothing_asked
  row_nothing tokens info = answer_at false _ _ _ false _ tokens refl refl refl info refl

  -- ---- each cause has its answer

  by_client : AsksAsClient p r → (asks_for_tokens p r ≡ true) × (is_authenticated p.registrations r ≡ true)
  by_client x = (tokens_back x.tokens, made x.client x.made)

  pub answer_of : (reason : Reason) → Cause p r reason → Gives reason
  answer_of no_client x =
      row_no_client (tokens_back x.tokens)
      (not_true (is_authenticated p.registrations r) (λ is. let (client, made_by) = maker is in x.none client made_by))
  answer_of other_grant_type x =
      let (tokens, client) = by_client x.asks in row_other_type tokens client (not_true grant_type (λ is. x.another (type_forth is)))
  answer_of no_grant x =
      let (tokens, client) = by_client x.asks.asks in
      row_no_grant tokens client (type_back x.asks.grant_type) (not_some (asked_grant p r) (λ g is. x.none g (grant_forth g is)))
  answer_of (redeems g) x =
      let (tokens, client) = by_client x.asks.asks in row_redeems g tokens client (type_back x.asks.grant_type) (grant_back g x.is_for)
  answer_of (bears g) x = row_bears g (no_post x.asks) (info_back x.asks) (borne_back g x.bears)
  answer_of no_token x =
      row_no_token (no_post x.asks) (info_back x.asks) (not_some (borne_grant p r) (λ g is. x.none g (borne_forth g is)))
  answer_of nothing_asked x =
      row_nothing (not_true (asks_for_tokens p r) (λ is. x.no_tokens (tokens_forth is)))
      (not_true (asks_for_info p r) (λ is. x.no_info (info_forth is)))

  -- ---- each answer has its cause

  record Why : Type 0 where
    reason : Reason
    cause : Cause p r reason

  by_grant : AsksByCode p r → (o : Option SeenGrant) → asked_grant p r ≡ o → Why
  by_grant asks None is =
      record { reason = no_grant; cause = record { asks = asks; none = λ g x. none_is_some g (sym is ∙ grant_back g x) } }
  by_grant asks (Some g) is = record { reason = redeems g; cause = record { asks = asks; is_for = grant_forth g is } }

  by_type : AsksAsClient p r → (b : Bool) → grant_type ≡ b → Why
  by_type asks true is = by_grant (record { asks = asks; grant_type = type_forth is }) (asked_grant p r) refl
  by_type asks false is =
      record { reason = other_grant_type; cause = record { asks = asks; another = λ x. false≢true (sym is ∙ type_back x) } }

  by_maker : AsksForTokens p r → (b : Bool) → is_authenticated p.registrations r ≡ b → Why
  by_maker tokens true is =
      let (client, made_by) = maker is in by_type (record { tokens = tokens; client = client; made = made_by }) grant_type refl
  by_maker tokens false is =
      record { reason = no_client; cause = record { tokens = tokens; none = λ client x. false≢true (sym is ∙ made client x) } }

  by_token : AsksForInfo p r → (o : Option SeenGrant) → borne_grant p r ≡ o → Why
  by_token asks None is =
      record { reason = no_token; cause = record { asks = asks; none = λ g x. none_is_some g (sym is ∙ borne_back g x) } }
  by_token asks (Some g) is = record { reason = bears g; cause = record { asks = asks; bears = borne_forth g is } }

  by_info : asks_for_tokens p r ≡ false → (b : Bool) → asks_for_info p r ≡ b → Why
  by_info tokens true is = by_token (info_forth is) (borne_grant p r) refl
  by_info tokens false is = record {
    reason = nothing_asked;
    cause = record { no_tokens = λ x. false≢true (sym tokens ∙ tokens_back x); no_info = λ x. false≢true (sym is ∙ info_back x) };
  }

  by_tokens : (b : Bool) → asks_for_tokens p r ≡ b → Why
  by_tokens true is = by_maker (tokens_forth is) (is_authenticated p.registrations r) refl
  by_tokens false is = by_info is (asks_for_info p r) refl

  why : Why
  why = by_tokens (asks_for_tokens p r) refl

  -- ---- of a call

  module _ (new : SeenProvider) (response : SeenResponse) (own_response : response ≡ (provider_answer p r).response) (own_state : new ≡ after p r) where
    pub answers : (reason : Reason) → Cause p r reason → IsAnswered p r reason new response
    answers reason x =
        let is : provider_answer p r ≡ answer_for reason = answer_of reason x in record {
          own_response = own_response ∙ ap (λ (answer : Answer). answer.response) is;
          grants = ap (λ (q : SeenProvider). q.grants) own_state ∙ ap (λ (answer : Answer). redeemed_by p.grants answer.redeems) is;
        }

    pub has_cause : HasCause p r new response
    has_cause = record { reason = why.reason; cause = why.cause; answered = answers why.reason why.cause }
