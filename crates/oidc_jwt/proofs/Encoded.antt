-- A text that was encoded is decoded again.
use Rattle.std.proofs.Common.{◌≡◌, ℕ, List, Ok, ap}
use Rattle.std.specs.Option.{ok_or}
use Rattle.std.specs.Result.{result_ok}
use Rattle.base64.specs.GeneralPurpose.{decode_of, decoded_of}
use Rattle.base64.specs.Engines.{url_safe_no_pad}
use Rattle.oidc_jwt.specs.Tokens.{decoded, no_token}

pub decoded_back : (text bytes : List ℕ) → decode_of url_safe_no_pad text ≡ Ok bytes → decoded text ≡ Ok bytes
unfolding decoded_of
decoded_back text bytes h = ap (λ r. ok_or (result_ok r) no_token) h
