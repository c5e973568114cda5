use Rattle.std.proofs.Common.{◌≡◌, sym, ap, subst, ◌∙◌, map, rules}
use Rattle.std.specs.Prelude.{◌||◌, IsSome}
use Rattle.std.specs.List.{list_any}
use Rattle.std.specs.Map.Iter.{deref}
use Rattle.std.specs.Str.{bytes_eq}
use Rattle.std.specs.FinMap as finite
use Rattle.std.specs.String.{string_bytes}
use Rattle.std.proofs.lemmas.Map.Iter.{iter_end}
use Rattle.oidc_session.specs.Stored.{left_at}
use Rattle.oidc_session.proofs.Stores.{any_push, any_shown, after_one, left_some}
use Rattle.oidc_session.proofs.store.take_named.Goals as goal

pub returns-clause-left : goal.returns-clause-left
returns-clause-left c = λ q.
    let all : map deref c.loop-id.yielded ≡ c.args.ids.now.keys = search (rules, iter_end) in
    c.loop-id.invariant.0 q ∙ ap (λ b. left_at c.args.logout.now b (finite.get c.args.sessions.now q)) (any_shown q c.loop-id.yielded c.args.ids.now.keys all)

pub returns-clause-others : goal.returns-clause-others
returns-clause-others c = c.loop-id.invariant.1

pub loop-id-preserved : goal.loop-id-preserved
loop-id-preserved c = (
  λ q.
      c.take_one.ensures.left q
      ∙ ap (left_at c.args.logout.now (bytes_eq c.as_str.result.now q)) (c.loop-id.invariant.0 q)
      ∙ after_one c.args.logout.now (bytes_eq c.as_str.result.now q) (list_any (λ k. bytes_eq (string_bytes k.now) q) c.loop-id.yielded) (finite.get c.args.sessions.now q)
      ∙ ap (λ b. left_at c.args.logout.now b (finite.get c.args.sessions.now q))
      (ap (λ t. bytes_eq t q || list_any (λ k. bytes_eq (string_bytes k.now) q) c.loop-id.yielded) c.as_str.ensures.value
      ∙ sym (any_push (λ k. bytes_eq (string_bytes k.now) q) c.loop-id.yielded c.in-Some.id)),
  λ n i there h.
      c.take_one.ensures.others n i there
      (c.loop-id.invariant.1 n i (left_some c.args.logout.now (bytes_eq c.as_str.result.now i) (finite.get c.loop-id.sessions i) (subst IsSome (c.take_one.ensures.left i) there)) h),
)
