use Rattle.std.proofs.Common.{◌+◌, ◌*◌, ◌≤◌, length, ap, arith}
use Rattle.std.proofs.Math.Nat.{mul-le-mul_right}
use Rattle.oidc_rsa.specs.Hash.{hash_len}
use Rattle.oidc_rsa.specs.Pss.{mgf1_blocks}
use Rattle.oidc_rsa.proofs.Masks.{blocks_more}
use Rattle.oidc_rsa.proofs.pss.mask_blocks.Goals as goal

pub loop-counter-init : goal.loop-counter-init
unfolding mgf1_blocks
loop-counter-init c =
    record {
      items = c.new-mask.ensures;
      len = omega (arith, ap length c.new-mask.ensures);
    }

pub append-requires : goal.append-requires
append-requires c =
    let block = ap length c.as_slice.ensures.value in
    let counted : (c.loop-counter.counter + 1) * hash_len c.args.hash ≤ c.args.count * hash_len c.args.hash = mul-le-mul_right (hash_len c.args.hash) (omega arith) in
    omega (arith, c.mask_block.ensures.len, c.loop-counter.invariant.len)

pub loop-counter-preserved : goal.loop-counter-preserved
loop-counter-preserved c =
    let more = blocks_more c.args.hash c.args.seed.now c.loop-counter.counter in
    let block = ap length c.as_slice.ensures.value in
    record {
      items = cc;
      len = omega (arith, c.mask_block.ensures.len, c.loop-counter.invariant.len, c.append.ensures.len);
    }
