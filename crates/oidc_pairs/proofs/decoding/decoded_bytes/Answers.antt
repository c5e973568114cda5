use Rattle.std.proofs.Common.{◌≡◌, ◌++◌, take, rules}
use Rattle.std.proofs.lemmas.List.{nil_from_length}
use Rattle.oidc_pairs.proofs.DecodedBytes.{part_decoded, all_decoded}
use Rattle.oidc_pairs.proofs.decoding.decoded_bytes.Goals as goal

pub loop-rest-preserved : goal.loop-rest-preserved
loop-rest-preserved c =
    let old = c.loop-rest.bytes.items in
    let middle = c.extend_from_slice.new.self.items in
    let new = c.extend_from_slice-in-loop-rest.new.self.items in
    let plain = c.plain_front.result.0.now in
    let behind = c.plain_front.result.1.now in
    let filled = take c.fill-used.result.0 c.fill-used.new.room in
    let first : middle ≡ old ++ plain = search rules in
    let second : new ≡ middle ++ filled = search rules in
    part_decoded middle new filled behind c.fill-used.result.1.now _ c.fill-used.ensures.bytes second
    (part_decoded old middle plain c.loop-rest.rest.now behind _ c.plain_front.ensures.bytes first c.loop-rest.invariant)

pub returns : goal.returns
returns c = all_decoded _ c.loop-rest.rest.now _ (nil_from_length c.loop-rest.rest.now (search rules)) c.loop-rest.invariant
