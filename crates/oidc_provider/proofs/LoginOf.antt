-- What a request for a code says of a login, by its five parts.
use Rattle.std.proofs.Common.{◌≡◌, ◌⊎◌, inl, inr, ℕ, List, Bool, true, false, ◌&&◌, cond, Option, None, Some, refl, ap}
use Rattle.std.specs.Prelude.{codes}
use Rattle.oidc_provider.specs.Values.{Pairs, only, says}
use Rattle.oidc_provider.specs.Authorization.{AskedLogin, login_with, login_of}
use Rattle.oidc_provider.specs.AuthorizationCauses.{AsksForCode, LacksOne}

same_Some : (x y : AskedLogin) → ◌≡◌ {A = Option AskedLogin} (Some x) (Some y) → x ≡ y
same_Some x y e = cc

abbrev by_five : Bool → Bool → Option (List ℕ) → Option (List ℕ) → Option (List ℕ) → Option AskedLogin
by_five code method state nonce challenge = cond (code && method) (login_with state nonce challenge) None

record HasFive (code method : Bool) (state nonce challenge : Option (List ℕ)) (login : AskedLogin) : Type 0 where
  own_code : code ≡ true
  own_method : method ≡ true
  own_state : state ≡ Some login.state
  own_nonce : nonce ≡ Some login.nonce
  own_challenge : challenge ≡ Some login.challenge

five_found : (code method : Bool) (s n c : Option (List ℕ)) (login : AskedLogin) → by_five code method s n c ≡ Some login → HasFive code method s n c login
five_found false method s n c login is = absurd cc
five_found true false s n c login is = absurd cc
five_found true true None n c login is = absurd cc
five_found true true (Some s) None c login is = absurd cc
five_found true true (Some s) (Some n) None login is = absurd cc
five_found true true (Some s) (Some n) (Some c) login is =
    let same : record { state = s; nonce = n; challenge = c } ≡ login = same_Some (record { state = s; nonce = n; challenge = c }) login is in record {
      own_code = refl;
      own_method = refl;
      own_state = ap (λ (x : AskedLogin). Some x.state) same;
      own_nonce = ap (λ (x : AskedLogin). Some x.nonce) same;
      own_challenge = ap (λ (x : AskedLogin). Some x.challenge) same;
    }

one_lacks : (code method : Bool) (s n c : Option (List ℕ)) → by_five code method s n c ≡ None
    → (code ≡ false) ⊎ ((method ≡ false) ⊎ ((s ≡ None) ⊎ ((n ≡ None) ⊎ (c ≡ None))))
one_lacks false method s n c is = inl refl
one_lacks true false s n c is = inr (inl refl)
one_lacks true true None n c is = inr (inr (inl refl))
one_lacks true true (Some s) None c is = inr (inr (inr (inl refl)))
one_lacks true true (Some s) (Some n) None is = inr (inr (inr (inr refl)))
one_lacks true true (Some s) (Some n) (Some c) is = absurd cc

no_state : (b : Bool) (n c : Option (List ℕ)) → cond b (login_with None n c) None ≡ None
no_state true n c = refl
no_state false n c = refl

no_nonce : (b : Bool) (s c : Option (List ℕ)) → cond b (login_with s None c) None ≡ None
no_nonce true None c = refl
no_nonce true (Some s) c = refl
no_nonce false s c = refl

no_challenge : (b : Bool) (s n : Option (List ℕ)) → cond b (login_with s n None) None ≡ None
no_challenge true None n = refl
no_challenge true (Some s) None = refl
no_challenge true (Some s) (Some n) = refl
no_challenge false s n = refl

no_method : (code : Bool) (s n c : Option (List ℕ)) → by_five code false s n c ≡ None
no_method true s n c = refl
no_method false s n c = refl

none_by : (code method : Bool) (s n c : Option (List ℕ))
    → (code ≡ false) ⊎ ((method ≡ false) ⊎ ((s ≡ None) ⊎ ((n ≡ None) ⊎ (c ≡ None)))) → by_five code method s n c ≡ None
none_by code method s n c (inl is) = rw is refl
none_by code method s n c (inr (inl is)) = rw is (no_method code s n c)
none_by code method s n c (inr (inr (inl is))) = rw is (no_state (code && method) n c)
none_by code method s n c (inr (inr (inr (inl is)))) = rw is (no_nonce (code && method) s c)
none_by code method s n c (inr (inr (inr (inr is)))) = rw is (no_challenge (code && method) s n)

module _ (query : Pairs) where
  pub asks_for_code : (login : AskedLogin) → login_of query ≡ Some login → AsksForCode query login
  asks_for_code login is =
      let five : HasFive (says query (codes "response_type") (codes "code")) (says query (codes "code_challenge_method") (codes "S256")) (only query (codes "state")) (only query (codes "nonce")) (only query (codes "code_challenge")) login =
      five_found (says query (codes "response_type") (codes "code")) (says query (codes "code_challenge_method") (codes "S256")) (only query (codes "state")) (only query (codes "nonce")) (only query (codes "code_challenge")) login is in record {
        response_type = five.own_code;
        method = five.own_method;
        state = five.own_state;
        nonce = five.own_nonce;
        challenge = five.own_challenge;
      }

  pub login_found : (login : AskedLogin) → AsksForCode query login → login_of query ≡ Some login
  login_found login x = rw (x.response_type, x.method, x.state, x.nonce, x.challenge) refl

  pub lacks_one : login_of query ≡ None → LacksOne query
  lacks_one is =
      one_lacks (says query (codes "response_type") (codes "code")) (says query (codes "code_challenge_method") (codes "S256")) (only query (codes "state")) (only query (codes "nonce")) (only query (codes "code_challenge")) is

  pub no_login : LacksOne query → login_of query ≡ None
  no_login lacks =
      none_by (says query (codes "response_type") (codes "code")) (says query (codes "code_challenge_method") (codes "S256")) (only query (codes "state")) (only query (codes "nonce")) (only query (codes "code_challenge")) lacks
