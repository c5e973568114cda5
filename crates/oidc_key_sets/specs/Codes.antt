-- How the logic stores keys, what the writer knows of their numbers, and what the steps of reading one answer. No public clause cites this.
use Rattle.std.specs.Prelude.{◌≡◌, ℕ, List, Option, Result, Ok, Err, refl}
use Rattle.std.specs.Coded.{Coded, code_by, coded×, coded_option, coded_list, coded_ℕ}
use Rattle.oidc_key_sets.specs.declared.errors.KeyError.{KeyError}
use Rattle.oidc_key_sets.specs.declared.members.KeyFault.{KeyFault}
use Rattle.oidc_key_sets.specs.declared.members.KeyFault.TheVariants.{Refused, Memory}
use Rattle.oidc_key_sets.specs.Numbers.{IsNumber}
use Rattle.oidc_key_sets.specs.Keys.{SeenRsaKey}

abbrev text_code : Coded (List ℕ)
text_code = coded_list coded_ℕ

-- an optional text
abbrev Part : Type 0
Part = Option (List ℕ)

abbrev part_code : Coded Part
part_code = coded_option text_code

abbrev pub rsa_key_code : Coded SeenRsaKey
rsa_key_code =
    code_by (List ℕ × (List ℕ × (Part × (Option (List (List ℕ)) × (Part × Part)))))
    (coded× text_code
    (coded× text_code (coded× part_code (coded× (coded_option (coded_list text_code)) (coded× part_code part_code)))))
    (λ k. (k.modulus, (k.exponent, (k.purpose, (k.operations, (k.algorithm, k.id))))))
    (λ p. record {
      modulus = p.0;
      exponent = p.1.0;
      purpose = p.1.1.0;
      operations = p.1.1.1.0;
      algorithm = p.1.1.1.1.0;
      id = p.1.1.1.1.1;
    })
    (λ _. refl)

-- the numbers of a key are read again of what is written of them
pub record HasNumbers (key : SeenRsaKey) : Type 0 where
  pub modulus : IsNumber key.modulus
  pub exponent : IsNumber key.exponent

-- The answer is the one that is meant, or want of memory.
abbrev pub GivesKey : {V : Type 0} → Result V KeyError → Result V KeyFault → Type 0
GivesKey meant (Ok value) = meant ≡ Ok value
GivesKey meant (Err (Refused error)) = meant ≡ Err error
GivesKey meant (Err Memory) = Unit {0}
