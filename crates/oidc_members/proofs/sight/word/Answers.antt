use Rattle.std.proofs.Common.{◌≡◌, true, false, codes, sym, subst, arith, rules}
use Rattle.std.proofs.lemmas.Slice.Eq.{text_from_reads}
use Rattle.serde_json.specs.Data.{boolean, null}
use Rattle.oidc_members.specs.Sight.{ReadsAs}
use Rattle.oidc_members.proofs.Scalars.{true_reads, false_reads, null_reads}
use Rattle.oidc_members.proofs.sight.word.Goals as goal

pub returns-in-true : goal.returns-in-true
returns-in-true c =
    let is : c.args.bytes.now ≡ codes "true" = text_from_reads c.args.bytes.now (codes "true") (omega arith) (search rules) in
    subst (λ t. ReadsAs t (boolean true)) (sym is) true_reads

pub returns-in-false : goal.returns-in-false
returns-in-false c =
    let is : c.args.bytes.now ≡ codes "false" = text_from_reads c.args.bytes.now (codes "false") (omega arith) (search rules) in
    subst (λ t. ReadsAs t (boolean false)) (sym is) false_reads

pub returns-in-null : goal.returns-in-null
returns-in-null c =
    let is : c.args.bytes.now ≡ codes "null" = text_from_reads c.args.bytes.now (codes "null") (omega arith) (search rules) in
    subst (λ t. ReadsAs t null) (sym is) null_reads
