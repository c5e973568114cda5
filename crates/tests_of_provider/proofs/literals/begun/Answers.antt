use Rattle.tests_of_provider.proofs.FirstBegin.{begun_url, begun_logins, own_begin_is, only_memory}
use Rattle.tests_of_provider.proofs.literals.begun.Goals as goal

pub returns-in-Ok-clause-url : goal.returns-in-Ok-clause-url
returns-in-Ok-clause-url c =
    begun_url _ _ c.requires.logins (own_begin_is _ _ c.requires.request c.requires.verifier) _ c.in-Ok.ensures.reply

pub returns-in-Ok-clause-logins : goal.returns-in-Ok-clause-logins
returns-in-Ok-clause-logins c =
    begun_logins _ _ c.requires.logins (own_begin_is _ _ c.requires.request c.requires.verifier) _ c.in-Ok.ensures.client c.in-Ok.ensures.recorded

pub want_of-requires : goal.want_of-requires
want_of-requires c = only_memory _ _ c.requires.logins (own_begin_is _ _ c.requires.request c.requires.verifier) _ c.in-Err.ensures.reply
