use Rattle.std.proofs.Common.{◌≡◌, ◌*◌, length}
use Rattle.oidc_rsa.specs.Hash.{hash_len}
use Rattle.oidc_rsa.specs.Pss.{mgf1_blocks}
use Rattle.oidc_rsa.proofs.pss.mask_blocks.Given as goal

abbrev pub invariant-loop-counter : goal.invariant-loop-counter
invariant-loop-counter l =
    record {
      items : l.mask.items ≡ mgf1_blocks l.hash l.seed l.counter;
      len : length l.mask.items ≡ l.counter * hash_len l.hash;
    }
