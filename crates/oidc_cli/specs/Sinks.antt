-- Sinks: what a call puts, and what contracts see of those in memory and over a writer.
use Rattle.std.specs.Prelude.{◌≡◌, ℕ, ◌+◌, Bool, ◌||◌, nat_lt, List, ◌++◌, length, take, Option, refl}
use Rattle.std.specs.Option.{option_map}
use Rattle.std.specs.Coded.{Coded, code_by, coded_ℕ, coded_list, coded×}
use Rattle.std.specs.Io.KnownBytes.{Appends}
use Rattle.oidc_cli.specs.Calls.{SeenCalls, calls_code, fails_next, after_success, after_fault}

-- these bytes were put: what is held now is what was held, and then the bytes
abbrev pub Puts : Option (List ℕ) → Option (List ℕ) → List ℕ → Type 0
Puts before after bytes = after ≡ option_map (λ held. held ++ bytes) before

-- some of the piece's first bytes were put, or none, or all
abbrev pub PutsPrefix : Option (List ℕ) → Option (List ℕ) → List ℕ → Type 0
PutsPrefix before after piece = (n : ℕ) × Puts before after (take n piece)

-- of a text that is put part by part: some was put, and this is left of it
pub record PutsSoFar (before now : Option (List ℕ)) (left whole : List ℕ) : Type 0 where
  pub done : List ℕ
  pub done_put : Puts before now done
  pub done_and_left : done ++ left ≡ whole

-- ---- over a writer

-- what a writer is known to hold grew by some of the piece's first bytes, or none, or all
abbrev pub AppendsPrefix : Option (List ℕ) → Option (List ℕ) → List ℕ → Type 0
AppendsPrefix before after piece = (n : ℕ) × Appends before after (take n piece)

-- ---- in memory

-- the bytes that are held, how many there is room for, and the calls
pub record SeenSink : Type 0 where
  pub held : List ℕ
  pub room : ℕ
  pub calls : SeenCalls

-- the next call fails at this piece: it is one of those that fail, or the piece goes past the room
abbrev pub fails_at : SeenSink → List ℕ → Bool
fails_at sink piece = fails_next sink.calls || nat_lt sink.room (length sink.held + length piece)

-- after a call that put a piece, and after one that failed
abbrev pub after_putting : SeenSink → List ℕ → SeenSink
after_putting sink piece = record sink { held = sink.held ++ piece; calls = after_success sink.calls }

abbrev pub after_failing : SeenSink → SeenSink
after_failing sink = record sink { calls = after_fault sink.calls }

-- how the logic stores it; no clause cites it
abbrev pub sink_code : Coded SeenSink
sink_code =
    code_by (List ℕ × (ℕ × SeenCalls)) (coded× (coded_list coded_ℕ) (coded× coded_ℕ calls_code))
    (λ s. (s.held, (s.room, s.calls))) (λ p. record { held = p.0; room = p.1.0; calls = p.1.1 }) (λ _. refl)
