-- Where a generator stands once state, nonce and verifier were drawn, or not all of them.
use Rattle.std.specs.Prelude.{◌⊎◌}
use Rattle.rand_core.specs.Stream.{Stream}
use Rattle.oidc_types.specs.Random.{stream_after, IsBeforeOrAfter}

-- where it stood, or behind the bytes of the first, of the first two, or of all three
abbrev pub StandsWithin : Stream → Stream → Type 0
StandsWithin old new =
    IsBeforeOrAfter 16 old new
    ⊎ IsBeforeOrAfter 16 (stream_after 16 old) new
    ⊎ IsBeforeOrAfter 32 (stream_after 16 (stream_after 16 old)) new
