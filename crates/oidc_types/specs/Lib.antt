-- words and their texts
pub mod Vocabulary
pub mod CoreAlgorithms
pub mod CoreAuthorization
pub mod CoreRegistration
-- texts, URLs, random texts, claims in several languages
pub mod Text
pub mod UrlText
pub mod Random
pub mod Localized
-- what crates above cite
pub use Rattle.oidc_types.specs.Vocabulary.{find_word}
pub use Rattle.oidc_types.specs.CoreAlgorithms.{signing_text, signing_algorithms, signing_key_type, signs_with_secret}
pub use Rattle.oidc_types.specs.UrlText.{TextAndUrl}
pub use Rattle.oidc_types.specs.Localized.{Variants, variants_code, tag_cmp, same_variants, entries_left}
-- the proof that the law of each open vocabulary cites, those of crates above too
pub mod KeepsText
