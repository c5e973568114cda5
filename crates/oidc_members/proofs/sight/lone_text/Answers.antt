use Rattle.std.proofs.Common.{◌≡◌, ◌-◌, ◌++◌, ◌∷◌, [], length}
use Rattle.std.specs.List.{slice_range}
use Rattle.oidc_members.proofs.Scalars.{framed_parts}
use Rattle.oidc_members.proofs.Arrays.{lone_reads}
use Rattle.oidc_members.proofs.sight.lone_text.Goals as goal

pub returns : goal.returns
returns c =
    let bytes = c.args.bytes.now in
    let content = slice_range bytes 1 (length bytes - 1) in
    let parts : bytes ≡ 91 ∷ (content ++ 93 ∷ []) = framed_parts bytes 91 93 c.if-bytes-lt2.false c.if-bytes-ne91.false c.if-bytes-ne93.false in
    lone_reads bytes content _ parts c.in_ok-text.ensures.quoted
