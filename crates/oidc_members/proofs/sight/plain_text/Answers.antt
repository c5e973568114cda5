use Rattle.std.proofs.Common.{◌≡◌, ◌-◌, ◌++◌, ◌∷◌, [], length, sym, subst}
use Rattle.std.specs.List.{slice_range}
use Rattle.serde_json.specs.Data.{string}
use Rattle.oidc_members.specs.Sight.{IsQuoted, ReadsAs}
use Rattle.oidc_members.proofs.Scalars.{string_reads, framed_parts}
use Rattle.oidc_members.proofs.sight.plain_text.Goals as goal

pub returns-clause-reads : goal.returns-clause-reads
returns-clause-reads c =
    let bytes = c.args.bytes.now in
    let content = slice_range bytes 1 (length bytes - 1) in
    let parts : bytes ≡ 34 ∷ (content ++ 34 ∷ []) = framed_parts bytes 34 34 c.if-bytes-lt2.false c.if-bytes-ne34.false c.if-bytes-ne34-2.false in
    let is = c.in_ok-text.ensures in
    subst (λ s. ReadsAs bytes (string s)) (sym is.same) (string_reads bytes content parts is.plain is.utf8)

pub returns-clause-quoted : goal.returns-clause-quoted
returns-clause-quoted c =
    let bytes = c.args.bytes.now in
    let content = slice_range bytes 1 (length bytes - 1) in
    let parts : bytes ≡ 34 ∷ (content ++ 34 ∷ []) = framed_parts bytes 34 34 c.if-bytes-lt2.false c.if-bytes-ne34.false c.if-bytes-ne34-2.false in
    let is = c.in_ok-text.ensures in
    let quoted : IsQuoted bytes content = record { whole = parts; plain = is.plain; utf8 = is.utf8 } in
    subst (IsQuoted bytes) (sym is.same) quoted
