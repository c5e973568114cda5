use Rattle.std.proofs.Common.{◌≡◌, Some, rules}
use Rattle.oidc_session.specs.Stored.{holds}
use Rattle.oidc_session.proofs.Stores.{logout_left, named_behind, named_subject, indexed_logout}
use Rattle.oidc_session.proofs.store.remove_named.Goals as goal

pub returns-in-Some : goal.returns-in-Some
returns-in-Some c =
    let m = c.args.sessions.now in
    let n = c.take_under.new.sessions in
    let a = c.args.by_subject.now.ids in
    let b = c.args.by_provider_session.now.ids in
    let name = c.as_str.result.now in
    let asked : c.args.logout.now.provider_session ≡ Some name = search rules in
    let rest = logout_left c.args.logout.now m n (holds b name) c.take_under.ensures.left (named_behind m a b c.requires.indexed c.args.logout.now name asked) in
    record {
      rest = rest;
      indexed = indexed_logout m n c.args.logout.now a b c.take_under.new.other.ids c.take_under.new.own.ids c.requires.indexed rest c.take_under.ensures.others c.take_under.ensures.own;
    }

pub returns-in-Some-subject : goal.returns-in-Some-subject
returns-in-Some-subject c =
    let m = c.args.sessions.now in
    let n = c.take_under-in-Some-subject.new.sessions in
    let a = c.args.by_subject.now.ids in
    let b = c.args.by_provider_session.now.ids in
    let name = c.as_str-in-Some-subject.result.now in
    let asked : c.args.logout.now.subject ≡ Some name = search rules in
    let rest = logout_left c.args.logout.now m n (holds a name) c.take_under-in-Some-subject.ensures.left (named_subject m a b c.requires.indexed c.args.logout.now name asked) in
    record {
      rest = rest;
      indexed = indexed_logout m n c.args.logout.now a b c.take_under-in-Some-subject.new.own.ids c.take_under-in-Some-subject.new.other.ids c.requires.indexed rest
          c.take_under-in-Some-subject.ensures.own c.take_under-in-Some-subject.ensures.others;
    }
