-- The token of bearer credentials.
use Rattle.std.proofs.Common.{◌≡◌, ℕ, List, [], ◌∷◌, ◌++◌, take, drop, Bool, true, false, ◌&&◌, cond, Option, None, Some, refl, ap, sym, ◌∙◌}
use Rattle.std.specs.Prelude.{IsTrue, MatchOption, codes, nat_eq, option_copied}
use Rattle.std.specs.Borrow.{Bor}
use Rattle.std.specs.List.{starts_with}
use Rattle.std.specs.Str.Pattern.{LacksTextAt, FindsTextPrefix, StripsPrefix}
use Rattle.std.specs.Cmp.Lexicographic.{bytes_decides}
use Rattle.std.proofs.lemmas.List.Elements.{All-nil, All-cons, All-head, All-tail}
use Rattle.std.proofs.lemmas.List.{take-append-drop}
use Rattle.http_header.specs.Token.{is_visible_or_blank}
use Rattle.http_header.specs.FieldValue.{is_visible_text, IsVisibleAscii}
use Rattle.oidc_provider.specs.Answers.{bearer_in}

abbrev IsSeen : ℕ → Type 0
IsSeen b = IsTrue (is_visible_or_blank b)

parts : (a b : Bool) → (a && b) ≡ true → (a ≡ true) × (b ≡ true)
parts true b h = (refl, h)
parts false b h = absurd cc

whole : (a b : Bool) → a ≡ true → b ≡ true → (a && b) ≡ true
whole a b ea eb = rw (ea, eb) refl

seen_all : (bytes : List ℕ) → IsVisibleAscii bytes → is_visible_text bytes ≡ true
seen_all [] h = refl
seen_all (b ∷ bytes) h =
    whole (is_visible_or_blank b) (is_visible_text bytes) (All-head IsSeen b bytes h) (seen_all bytes (All-tail IsSeen b bytes h))

all_seen : (bytes : List ℕ) → is_visible_text bytes ≡ true → IsVisibleAscii bytes
all_seen [] h = All-nil IsSeen
all_seen (b ∷ bytes) h =
    let p = parts (is_visible_or_blank b) (is_visible_text bytes) h in
    All-cons IsSeen b bytes p.0 (all_seen bytes p.1)

abbrev scheme : List ℕ
scheme = codes "Bearer "

abbrev behind : List ℕ → Option (List ℕ)
behind text = cond (starts_with nat_eq text scheme) (Some (drop 7 text)) None

begun : (rest : List ℕ) → starts_with nat_eq (scheme ++ rest) scheme ≡ true
begun rest = refl

lacking : (text : List ℕ) → LacksTextAt scheme text 0 → (b : Bool) → starts_with nat_eq text scheme ≡ b → b ≡ false
lacking text lacks true is =
    let same : scheme ≡ take 7 text = (bytes_decides scheme (take 7 text)).0 is in
    absurd (lacks (drop 7 text) (sym (take-append-drop 7 text) ∙ ap (λ front. front ++ drop 7 text) (sym same)))
lacking text lacks false is = refl

stripped : (text : List ℕ) (r : Option (Bor (List ℕ))) → MatchOption r (LacksTextAt scheme text 0) (λ x. StripsPrefix (FindsTextPrefix scheme) text x.now)
    → option_copied r ≡ behind text
stripped text None lacks = ap (λ b. cond b (Some (drop 7 text)) None) (sym (lacking text lacks (starts_with nat_eq text scheme) refl))
stripped text (Some x) (n, found, is, long) =
    let starts : starts_with nat_eq text scheme ≡ true = ap (λ t. starts_with nat_eq t scheme) found.1 ∙ begun (drop n text) in
    ap Some (is ∙ ap (λ k. drop k text) found.0) ∙ ap (λ b. cond b (Some (drop 7 text)) None) (sym starts)

seen_behind : (seen starts : Bool) (text : List ℕ) → seen ≡ true → cond starts (Some text) None ≡ cond (seen && starts) (Some text) None
seen_behind seen starts text h = rw h refl

unseen_behind : (seen starts : Bool) (text : List ℕ) → (seen ≡ true → ⊥) → ◌≡◌ {A = Option (List ℕ)} None (cond (seen && starts) (Some text) None)
unseen_behind true starts text h = absurd (h refl)
unseen_behind false starts text h = refl

pub bearer_read : (bytes text : List ℕ) (r : Option (Bor (List ℕ))) → text ≡ bytes → IsVisibleAscii bytes
    → MatchOption r (LacksTextAt scheme text 0) (λ x. StripsPrefix (FindsTextPrefix scheme) text x.now) → option_copied r ≡ bearer_in bytes
bearer_read bytes text r same seen found =
    stripped text r found ∙ ap behind same
    ∙ seen_behind (is_visible_text bytes) (starts_with nat_eq bytes scheme) (drop 7 bytes) (seen_all bytes seen)

pub no_bearer : (bytes : List ℕ) → (IsVisibleAscii bytes → ⊥) → ◌≡◌ {A = Option (List ℕ)} None (bearer_in bytes)
no_bearer bytes unseen =
    unseen_behind (is_visible_text bytes) (starts_with nat_eq bytes scheme) (drop 7 bytes) (λ h. unseen (all_seen bytes h))
