use Rattle.std.proofs.Common.{◌≡◌, All, length, map, take, sym, subst}
use Rattle.form_urlencoded.specs.Form.{pair_text}
use Rattle.oidc_pairs.specs.Pairs.{IsTextPair}
use Rattle.oidc_user_info.proofs.QueryLists.{truncated}
use Rattle.oidc_user_info.proofs.query_pairs.QueryPairs.push_given.Goals as goal

-- what is left are the pairs that were there, which are texts
pub invariant_of-self : goal.invariant_of-self
invariant_of-self c =
    let old = c.self.inside.pairs.items in
    let now = c.self-2.inside.pairs.items in
    let begins = c.in-Err.ensures.err in
    let first = c.self.view_is in
    let second = c.self-2.view_is in
    let back : take (length (map pair_text old)) (map pair_text now) ≡ map pair_text old = cc (begins, first, second) in
    let cut = truncated pair_text old now back in
    let items = c.truncate.ensures.items in
    let len = c.len-before.ensures in
    let is : map pair_text c.truncate.new.self.items ≡ map pair_text old = cc (cut, items, len) in
    subst (All IsTextPair) (sym is) c.self.invariant
