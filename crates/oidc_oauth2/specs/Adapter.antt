-- A transport over a closure as contracts see it: its closure, and how often that has failed.
use Rattle.std.specs.Prelude.{ℕ, ◌+◌, ◌-◌, ◌^◌, min, List, Result, Ok, Err}
use Rattle.http.specs.declared.response.Response.{Response}
use Rattle.oidc_oauth2.specs.Transport.{CallResult}
use Rattle.oidc_oauth2.specs.declared.transport.CallError.TheVariants.{Transport}
use Rattle.oidc_oauth2.specs.declared.adapter.Adapter.{Adapter}

abbrev pub closure_of : {F : Type 0} → Adapter F → F
closure_of adapter = adapter.call

abbrev pub fault_count_of : {F : Type 0} → Adapter F → ℕ
fault_count_of adapter = adapter.faults

-- the answer of a transport whose closure answers this
abbrev pub answered : {E : Type 0} → Result (Response (List ℕ)) E → CallResult E
answered (Ok response) = Ok response
answered (Err error) = Err (Transport error)

-- one more, up to the last value of 64 bits
abbrev pub risen : ℕ → ℕ
risen count = min (count + 1) (2 ^ 64 - 1)
