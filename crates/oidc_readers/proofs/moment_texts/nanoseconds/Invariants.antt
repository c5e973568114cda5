use Rattle.std.proofs.Common.{◌≡◌, ◌+◌, ◌-◌, ◌^◌, ◌≤◌, drop}
use Rattle.jiff_fmt.specs.Reader.{fraction_value}
use Rattle.oidc_readers.proofs.moment_texts.nanoseconds.Given as goal

-- what came and what is left make the whole
abbrev pub invariant-loop-digit : goal.invariant-loop-digit
invariant-loop-digit l = record {
  worth : l.worth ≡ 10 ^ (9 - l.digit-index);
  small : l.nanosecond + l.worth ≤ 1_000_000_000;
  value : l.nanosecond + fraction_value (9 - l.digit-index) (drop l.digit-index l.places) ≡ fraction_value 9 l.places;
}
