-- The address of a document is its suffix joined to the issuer's text.
use Rattle.std.proofs.Common.{◌≡◌, ℕ, ◌-◌, Bool, true, false, List, ◌++◌, length, take, drop, nat_eq, codes, refl, sym, ap, ◌∙◌, append_assoc, if◌then◌else◌}
use Rattle.std.specs.List.{ends_with}
use Rattle.std.proofs.lemmas.List.{take-append-drop}
use Rattle.std.proofs.lemmas.Slice.Eq.{bytes_eq-Decides}
use Rattle.oidc_types.specs.UrlText.{joined_text}
use Rattle.oidc_discovery.specs.Requests.{document_text}

suffix : List ℕ
suffix = codes ".well-known/openid-configuration"

-- A text that ends with a slash is what stands before it, and a slash.
slash_back : (text : List ℕ) → ends_with nat_eq text (codes "/") ≡ true
    → take (length text - 1) text ++ codes "/" ≡ text
slash_back text e =
    let last : codes "/" ≡ drop (length text - 1) text =
    (bytes_eq-Decides (codes "/") (drop (length text - 1) text)).0 e in
    ap (λ end. take (length text - 1) text ++ end) last ∙ take-append-drop (length text - 1) text

by_test : (text : List ℕ) (ends : Bool) → ends_with nat_eq text (codes "/") ≡ ends
    → (if ends then text ++ suffix else text ++ codes "/" ++ suffix)
    ≡ (if ends then take (length text - 1) text else text) ++ codes "/.well-known/openid-configuration"
unfolding suffix
by_test text true e =
    ap (λ whole. whole ++ suffix) (sym (slash_back text e))
    ∙ append_assoc (take (length text - 1) text) (codes "/") suffix
by_test text false e = append_assoc text (codes "/") suffix

pub joined : (text : List ℕ) → joined_text text (codes ".well-known/openid-configuration") ≡ document_text text
unfolding suffix
joined text = by_test text (ends_with nat_eq text (codes "/")) refl
