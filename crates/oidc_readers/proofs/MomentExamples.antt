-- The grammar of moments, computed on small texts.
use Rattle.std.specs.Prelude.{⊤, ◌≡◌, pos, neg_ℤ, Some, None, codes, refl}
use Rattle.jiff.proofs.OnLiterals.{jiff_on_literals}
use Rattle.oidc_readers.specs.MomentTexts.{full_date, fraction_digits, partial_time, offset_digits, time_offset, moment_in}

unfoldable on_literals : ⊤
unfolding moment_in full_date partial_time fraction_digits time_offset offset_digits jiff_on_literals
on_literals = tt

-- RFC 3339 section 5.8
in_utc : moment_in (codes "1985-04-12T23:20:50.52Z") ≡ Some (pos 482_196_050_520_000_000)
unfolding on_literals
in_utc = refl

behind_utc : moment_in (codes "1996-12-19T16:39:57-08:00") ≡ Some (pos 851_042_397_000_000_000)
unfolding on_literals
behind_utc = refl

leap_second : moment_in (codes "1990-12-31T23:59:60Z") ≡ None
unfolding on_literals
leap_second = refl

of_old : moment_in (codes "1937-01-01T12:00:27.87+00:20") ≡ Some (neg_ℤ (pos 1_041_337_172_130_000_000))
unfolding on_literals
of_old = refl

small_letters : moment_in (codes "2021-12-22t03:10:37.1234567899+01:00") ≡ Some (pos 1_640_139_037_123_456_789)
unfolding on_literals
small_letters = refl

no_leap_day : moment_in (codes "2021-02-29T00:00:00Z") ≡ None
unfolding on_literals
no_leap_day = refl

far_offset : moment_in (codes "2021-12-22T03:10:37+24:00") ≡ None
unfolding on_literals
far_offset = refl

no_zone : moment_in (codes "2021-12-22T03:10:37") ≡ None
unfolding on_literals
no_zone = refl
