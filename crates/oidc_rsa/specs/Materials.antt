-- What the fields of a key are, to a contract.
use Rattle.oidc_rsa.specs.declared.provider_key.Material.{Material}
use Rattle.oidc_rsa.specs.declared.provider_key.Material.TheVariants as field
use Rattle.oidc_rsa.specs.ProviderKey.{KeyMaterial, Rsa, Secret}

abbrev pub seen_material : Material → KeyMaterial
seen_material (field.Rsa key) = Rsa key
seen_material (field.Secret key) = Secret key.secret
