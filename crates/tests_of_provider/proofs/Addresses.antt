-- The URL Standard reads the literals' addresses.
use Rattle.std.specs.Prelude.{None, IsTrue, codes, refl}
use Rattle.std.specs.Result.{is_ok}
use Rattle.url.specs.Parser.{parse_url}
use Rattle.url.proofs.OnLiterals.{url_on_literals}

pub issuer_reads : IsTrue (is_ok (parse_url None (codes "https://example")))
unfolding url_on_literals
issuer_reads = refl

pub authorization_reads : IsTrue (is_ok (parse_url None (codes "https://example/authorize")))
unfolding url_on_literals
authorization_reads = refl

pub tokens_reads : IsTrue (is_ok (parse_url None (codes "https://example/token")))
unfolding url_on_literals
tokens_reads = refl

pub user_info_reads : IsTrue (is_ok (parse_url None (codes "https://example/info")))
unfolding url_on_literals
user_info_reads = refl

pub keys_reads : IsTrue (is_ok (parse_url None (codes "https://example/keys")))
unfolding url_on_literals
keys_reads = refl

pub redirect_reads : IsTrue (is_ok (parse_url None (codes "https://site/back")))
unfolding url_on_literals
redirect_reads = refl
