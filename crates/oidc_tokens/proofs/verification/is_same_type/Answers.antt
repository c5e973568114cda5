use Rattle.std.specs.Prelude.{map}
use Rattle.std.specs.Char.{to_ascii_lowercase}
use Rattle.std.specs.Str.{str_eq_ignore_ascii_case}
use Rattle.std.proofs.lemmas.Slice.Eq.{bytes_eq-Decides}
use Rattle.oidc_tokens.proofs.TokenTypes.{agree}
use Rattle.oidc_tokens.proofs.verification.is_same_type.Goals as goal

pub returns : goal.returns
returns c = agree _ (str_eq_ignore_ascii_case c.args.typ.now c.args.known.now) _ c.eq_ignore_ascii_case.ensures.test
    (bytes_eq-Decides (map to_ascii_lowercase c.args.typ.now) (map to_ascii_lowercase c.args.known.now))
