-- texts that a generator draws
use Rattle.std.specs.Prelude.{◌≡◌, ◌⊎◌, ℕ, zero, suc, List, [], ◌∷◌}
use Rattle.rand_core.specs.Stream.{Stream}
use Rattle.rand.specs.Draw.{next_u8}
use Rattle.base64.specs.GeneralPurpose.{encode_of}
use Rattle.base64.specs.Engines.{url_safe_no_pad}

-- the next bytes of a stream, one draw each, and the stream that is left
unfoldable pub next_bytes : ℕ → Stream → List ℕ × Stream
next_bytes zero s = ([], s)
next_bytes (suc n) s = ((next_u8 s).0 ∷ (next_bytes n (next_u8 s).1).0, (next_bytes n (next_u8 s).1).1)

-- their base64url text without padding (RFC 4648 section 5)
abbrev pub random_text : ℕ → Stream → List ℕ
random_text n s = encode_of url_safe_no_pad (next_bytes n s).0

-- the stream that is left behind them
abbrev pub stream_after : ℕ → Stream → Stream
stream_after n s = (next_bytes n s).1

-- the generator stands where it stood, or behind the bytes
abbrev pub IsBeforeOrAfter : ℕ → Stream → Stream → Type 0
IsBeforeOrAfter n old new = (new ≡ old) ⊎ (new ≡ stream_after n old)
