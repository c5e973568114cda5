-- Form texts, pair by pair.
use Rattle.std.proofs.Common.{◌≡◌, ℕ, List, [], ◌∷◌, ◌++◌, codes, Ok, refl, sym, ap, ◌∙◌, append_assoc, append-nil}
use Rattle.form_urlencoded.specs.Form.{serialize_pair}
use Rattle.http_header.specs.HeaderMap.{get}
use Rattle.oidc_pairs.specs.Form.{form}
use Rattle.oidc_oauth2.specs.Messages.{SeenRequest}
use Rattle.oidc_members.specs.declared.refusal.Refusal.{Refusal}
use Rattle.oidc_cli.specs.Types.{SeenSignedIn, claims_text}
use Rattle.oidc_cli.specs.Report.{header_pair, body_pair, request_line, refresh_pair, user_info_pair, kind_word, parse_words, verdict_line}
use Rattle.oidc_cli.specs.Steps.{behind}

form_first : (pair : List ℕ × List ℕ) (list : List (List ℕ × List ℕ)) → form (pair ∷ list) ≡ serialize_pair pair ++ behind list
unfolding form
form_first pair [] = sym (append-nil (serialize_pair pair))
form_first pair (next ∷ list) = ap (λ text. serialize_pair pair ++ 38 ∷ text) (form_first next list)

behind-append : (a b : List (List ℕ × List ℕ)) → behind (a ++ b) ≡ behind a ++ behind b
behind-append [] b = refl
behind-append (pair ∷ a) b = ap (λ text. 38 ∷ serialize_pair pair ++ text) (behind-append a b) ∙ ap (λ text. 38 ∷ text) (simp append_assoc)

behind_parts : (a : List ℕ × List ℕ) (x1 x2 x3 x4 : List (List ℕ × List ℕ))
    → behind (((a ∷ x1 ++ x2) ++ x3) ++ x4) ≡ ((((38 ∷ serialize_pair a) ++ behind x1) ++ behind x2) ++ behind x3) ++ behind x4
behind_parts a x1 x2 x3 x4 =
    behind-append ((a ∷ x1 ++ x2) ++ x3) x4
    ∙ ap (λ t. t ++ behind x4) (behind-append (a ∷ x1 ++ x2) x3 ∙ ap (λ t. t ++ behind x3) (behind-append (a ∷ x1) x2))

-- a text behind which two were put, and a line of two parts
pub both_pushed : (o a b t1 t2 : List ℕ) → t1 ≡ o ++ a → t2 ≡ t1 ++ b → t2 ≡ o ++ (a ++ b)
both_pushed o a b t1 t2 e1 e2 = rw (e2, e1) (append_assoc o a b)

pub line_pushed : (o a b t1 t2 t3 : List ℕ) → t1 ≡ o ++ a → t2 ≡ t1 ++ b → t3 ≡ t2 ++ 10 ∷ [] → t3 ≡ o ++ ((a ++ b) ++ 10 ∷ [])
line_pushed o a b t1 t2 t3 e1 e2 e3 = rw (e3, e2, e1) (simp append_assoc)

nested : (o r m p x y z w l : List ℕ)
    → ((((((((o ++ r) ++ m) ++ (p ++ [])) ++ x) ++ y) ++ z) ++ w) ++ l) ≡ o ++ ((r ++ (m ++ ((((p ++ x) ++ y) ++ z) ++ w))) ++ l)
nested o r m p x y z w l = simp (append_assoc, append-nil)

-- the line of a request, behind a text
pub request_text : (request : SeenRequest) (o t0 t1 t2 t3 t4 t5 t6 t7 : List ℕ)
    → t0 ≡ o ++ codes "request "
    → t1 ≡ t0 ++ serialize_pair (codes "method", request.method)
    → t2 ≡ t1 ++ behind ((codes "address", request.address) ∷ [])
    → t3 ≡ t2 ++ behind (header_pair (codes "accept") (get request.headers (codes "accept")))
    → t4 ≡ t3 ++ behind (header_pair (codes "content_type") (get request.headers (codes "content-type")))
    → t5 ≡ t4 ++ behind (header_pair (codes "authorization") (get request.headers (codes "authorization")))
    → t6 ≡ t5 ++ behind (body_pair request)
    → t7 ≡ t6 ++ 10 ∷ []
    → t7 ≡ o ++ request_line request
unfolding request_line
request_text request o t0 t1 t2 t3 t4 t5 t6 t7 e0 e1 e2 e3 e4 e5 e6 e7 =
    let x1 = header_pair (codes "accept") (get request.headers (codes "accept")) in
    let x2 = header_pair (codes "content_type") (get request.headers (codes "content-type")) in
    let x3 = header_pair (codes "authorization") (get request.headers (codes "authorization")) in
    let x4 = body_pair request in
    let a : List ℕ × List ℕ = (codes "address", request.address) in
    rw (e7, e6, e5, e4, e3, e2, e1, e0)
    (nested o (codes "request ") (serialize_pair (codes "method", request.method)) (38 ∷ serialize_pair a) (behind x1) (behind x2) (behind x3) (behind x4) (10 ∷ [])
    ∙ ap (λ t. o ++ ((codes "request " ++ t) ++ 10 ∷ []))
    (ap (λ t. serialize_pair (codes "method", request.method) ++ t) (sym (behind_parts a x1 x2 x3 x4))
    ∙ sym (form_first (codes "method", request.method) (((a ∷ x1 ++ x2) ++ x3) ++ x4))))

chained : (o w s r c u l : List ℕ) → (((((o ++ w) ++ s) ++ r) ++ (c ++ [])) ++ u) ++ l ≡ o ++ ((w ++ (s ++ (r ++ (c ++ u)))) ++ l)
chained o w s r c u l = simp (append_assoc, append-nil)

-- the line of a user who is signed in, behind a text
pub signed_text : (signed : SeenSignedIn) (o t0 t1 t2 t3 t4 t5 : List ℕ)
    → t0 ≡ o ++ codes "callback ok "
    → t1 ≡ t0 ++ serialize_pair (codes "access_token", signed.access_token)
    → t2 ≡ t1 ++ behind (refresh_pair signed.refresh_token)
    → t3 ≡ t2 ++ behind ((codes "claims", claims_text signed.id_token.payload) ∷ [])
    → t4 ≡ t3 ++ behind (user_info_pair signed.user_info)
    → t5 ≡ t4 ++ 10 ∷ []
    → t5 ≡ o ++ verdict_line (Ok signed)
unfolding verdict_line
signed_text signed o t0 t1 t2 t3 t4 t5 e0 e1 e2 e3 e4 e5 =
    let a : List ℕ × List ℕ = (codes "access_token", signed.access_token) in
    let c : List ℕ × List ℕ = (codes "claims", claims_text signed.id_token.payload) in
    let r = refresh_pair signed.refresh_token in
    let u = user_info_pair signed.user_info in
    rw (e5, e4, e3, e2, e1, e0)
    (chained o (codes "callback ok ") (serialize_pair a) (behind r) (38 ∷ serialize_pair c) (behind u) (10 ∷ [])
    ∙ ap (λ t. o ++ ((codes "callback ok " ++ t) ++ 10 ∷ [])) (sym (form_first a (r ++ c ∷ u) ∙ ap (λ t. serialize_pair a ++ t) (behind-append r (c ∷ u)))))

-- the words of a refusal to read
joined_words : (t w s f : List ℕ) → ((t ++ w) ++ s) ++ f ≡ t ++ (w ++ (s ++ f))
joined_words t w s f = simp append_assoc

pub parse_text : (refusal : Refusal) (t0 t1 t2 t3 : List ℕ)
    → t1 ≡ t0 ++ codes "parse "
    → t2 ≡ t1 ++ serialize_pair (codes "kind", kind_word refusal.kind)
    → t3 ≡ t2 ++ behind ((codes "field", refusal.field) ∷ [])
    → t3 ≡ t0 ++ parse_words refusal
parse_text refusal t0 t1 t2 t3 e1 e2 e3 =
    let a : List ℕ × List ℕ = (codes "kind", kind_word refusal.kind) in
    let f : List (List ℕ × List ℕ) = (codes "field", refusal.field) ∷ [] in
    rw (e3, e2, e1)
    (joined_words t0 (codes "parse ") (serialize_pair a) (behind f)
    ∙ ap (λ t. t0 ++ (codes "parse " ++ t)) (sym (form_first a f)))
