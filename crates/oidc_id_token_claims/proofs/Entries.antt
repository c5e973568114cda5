-- Members of distinct names, some of which are left out.
use Rattle.std.proofs.Common.{◌≡◌, ℕ, List, [], ◌∷◌, ◌++◌, map, Bool, true, false, ◌&&◌, ◌||◌, not, cond, Option, None, Some, refl, sym, ap, ◌∙◌, filter, append-nil, append_assoc}
use Rattle.std.specs.List.{flat_map, list_any, list_all}
use Rattle.std.specs.Str.{bytes_eq}
use Rattle.std.proofs.lemmas.List.{map-append}
use Rattle.std.proofs.lemmas.Bool.{and_parts, and_from, false≢true}
use Rattle.std.proofs.lemmas.List.Elements.{filter-append}
use Rattle.serde_json.specs.Data.{Data}
use Rattle.oidc_members.specs.Seen.{SeenMember, OutSeen}
use Rattle.oidc_readers.specs.WrittenBack.{as_read}
use Rattle.oidc_readers.specs.Writing.{one_member}

-- a name, and its value where there is one
abbrev pub Entry : Type 0
Entry = List ℕ × Option Data

abbrev pub out_at : List ℕ → Option Data → List OutSeen
out_at name None = []
out_at name (Some value) = one_member name value

abbrev pub outs : List Entry → List OutSeen
outs es = flat_map (λ e. out_at e.0 e.1) es

-- Each value that is there is of this kind.
abbrev pub Holds : (Data → Type 0) → Option Data → Type 0
Holds P None = Unit {0}
Holds P (Some value) = P value

abbrev pub EachHolds : (Data → Type 0) → List Entry → Type 0
EachHolds P [] = Unit {0}
EachHolds P (e ∷ es) = Holds P e.1 × EachHolds P es

-- the members as they are read
abbrev pub seen : List Entry → List SeenMember
seen es = map as_read (outs es)

abbrev pub is_named : List ℕ → List Entry → Bool
is_named name es = list_any (λ e. bytes_eq e.0 name) es

abbrev pub with_name : List ℕ → List SeenMember → List SeenMember
with_name name ms = filter (λ m. bytes_eq m.name name) ms

pub seen_cons : (e : Entry) (es : List Entry) → seen (e ∷ es) ≡ map as_read (out_at e.0 e.1) ++ seen es
seen_cons e es = map-append as_read (out_at e.0 e.1) (outs es)

pub seen_append : (xs ys : List Entry) → seen (xs ++ ys) ≡ seen xs ++ seen ys
seen_append [] ys = refl
seen_append (e ∷ xs) ys =
    seen_cons e (xs ++ ys) ∙ ap (λ l. map as_read (out_at e.0 e.1) ++ l) (seen_append xs ys)
    ∙ sym (append_assoc (map as_read (out_at e.0 e.1)) (seen xs) (seen ys)) ∙ ap (λ l. l ++ seen ys) (sym (seen_cons e xs))

-- ---- which of them have a name

not_or : (a b : Bool) → (a || b) ≡ false → (a ≡ false) × (b ≡ false)
not_or false b h = (refl, h)
not_or true b h = absurd (false≢true (sym h))

not_here : (name n : List ℕ) (o : Option Data) → bytes_eq n name ≡ false → with_name name (map as_read (out_at n o)) ≡ []
not_here name n None h = refl
not_here name n (Some value) h = λ i. cond (h i) (as_read (record { name = n; value = value }) ∷ []) []

pub none_named : (name : List ℕ) (es : List Entry) → is_named name es ≡ false → with_name name (seen es) ≡ []
none_named name [] h = refl
none_named name (e ∷ es) h =
    let parts = not_or (bytes_eq e.0 name) (is_named name es) h in
    ap (with_name name) (seen_cons e es) ∙ filter-append (λ m. bytes_eq m.name name) (map as_read (out_at e.0 e.1)) (seen es)
    ∙ (λ i. not_here name e.0 e.1 parts.0 i ++ none_named name es parts.1 i)

here : (name : List ℕ) (o : Option Data) → bytes_eq name name ≡ true → with_name name (map as_read (out_at name o)) ≡ map as_read (out_at name o)
here name None h = refl
here name (Some value) h = λ i. cond (h i) (as_read (record { name = name; value = value }) ∷ []) []

-- the one entry of a name, between others
pub alone_named : (name : List ℕ) (o : Option Data) (xs ys : List Entry) → bytes_eq name name ≡ true → is_named name xs ≡ false → is_named name ys ≡ false
    → with_name name (seen (xs ++ (name, o) ∷ ys)) ≡ map as_read (out_at name o)
alone_named name o xs ys itself before after =
    ap (with_name name) (seen_append xs ((name, o) ∷ ys)) ∙ filter-append (λ m. bytes_eq m.name name) (seen xs) (seen ((name, o) ∷ ys))
    ∙ ap (λ l. l ++ with_name name (seen ((name, o) ∷ ys))) (none_named name xs before)
    ∙ ap (with_name name) (seen_cons (name, o) ys) ∙ filter-append (λ m. bytes_eq m.name name) (map as_read (out_at name o)) (seen ys)
    ∙ (λ i. here name o itself i ++ none_named name ys after i) ∙ append-nil (map as_read (out_at name o))

-- ---- distinct names

abbrev pub distinct : List Entry → Bool
distinct [] = true
distinct (e ∷ es) = not (list_any (λ other. bytes_eq e.0 other.0) es) && distinct es

-- no member has the name of an entry
abbrev pub is_fresh : List SeenMember → List Entry → Bool
is_fresh before es = list_all (λ m. not (list_any (λ e. bytes_eq m.name e.0) es)) before

not_either : (a b : Bool) → not (a || b) ≡ true → (not a ≡ true) × (not b ≡ true)
not_either false b h = (refl, h)
not_either true b h = absurd (false≢true h)

pub fresh_tail : (before : List SeenMember) (e : Entry) (es : List Entry) → is_fresh before (e ∷ es) ≡ true → (list_all (λ m. not (bytes_eq m.name e.0)) before ≡ true) × (is_fresh before es ≡ true)
fresh_tail [] e es h = (refl, refl)
fresh_tail (m ∷ before) e es h =
    let parts = and_parts (not (bytes_eq m.name e.0 || list_any (λ e. bytes_eq m.name e.0) es)) (is_fresh before (e ∷ es)) h in
    let both = not_either (bytes_eq m.name e.0) (list_any (λ e. bytes_eq m.name e.0) es) parts.0 in
    let rest = fresh_tail before e es parts.1 in (
      and_from (not (bytes_eq m.name e.0)) (list_all (λ m. not (bytes_eq m.name e.0)) before) both.0 rest.0,
      and_from (not (list_any (λ e. bytes_eq m.name e.0) es)) (is_fresh before es) both.1 rest.1,
    )

pub next_fresh : (before : List SeenMember) (m : SeenMember) (e : Entry) (es : List Entry) → m.name ≡ e.0 → not (list_any (λ other. bytes_eq e.0 other.0) es) ≡ true → is_fresh before es ≡ true
    → is_fresh (before ++ m ∷ []) es ≡ true
next_fresh [] m e es is new h = and_from (not (list_any (λ other. bytes_eq m.name other.0) es)) true (ap (λ n. not (list_any (λ other. bytes_eq n other.0) es)) is ∙ new) refl
next_fresh (b ∷ before) m e es is new h =
    let parts = and_parts (not (list_any (λ e. bytes_eq b.name e.0) es)) (is_fresh before es) h in
    and_from (not (list_any (λ e. bytes_eq b.name e.0) es)) (is_fresh (before ++ m ∷ []) es) parts.0 (next_fresh before m e es is new parts.1)
