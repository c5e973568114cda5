use Rattle.std.proofs.Common.{arith, bit_xor, slice_index, length-append, length-take, length-drop, length, ◌<◌}
use Rattle.std.proofs.lemmas.List.{get_or_default, length-map}
use Rattle.std.proofs.lemmas.List.Edits.{map_over_more}
use Rattle.oidc_keys.proofs.mac.masked_block.Goals as goal

-- each byte is masked in its turn
pub loop-byte-preserved : goal.loop-byte-preserved
loop-byte-preserved g c =
    let items = c.loop-byte.byte-items in
    let i = c.loop-byte.byte-index in
    let within : i < length items = simp (c.loop-byte.invariant, length-append, length-map, length-take, length-drop) (omega arith) in
    map_over_more (λ byte. bit_xor byte c.args.pad) c.args.block.now items i
    (slice_index items i) (omega arith) c.loop-byte.invariant
    (get_or_default items i 0 (slice_index items i) within)
