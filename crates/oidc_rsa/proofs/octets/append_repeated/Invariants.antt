use Rattle.std.proofs.Common.{◌≡◌, ◌+◌, ◌++◌, replicate}
use Rattle.arrayvec.specs.ArrayVec.{array_vec_len}
use Rattle.oidc_rsa.proofs.octets.append_repeated.Given as goal

abbrev pub invariant-loop-i : goal.invariant-loop-i
invariant-loop-i g l =
    record {
      items : l.out.items ≡ l.fn.out.items ++ replicate l._i l.octet;
      len : array_vec_len l.out ≡ array_vec_len l.fn.out + l._i;
    }
