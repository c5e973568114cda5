use Rattle.std.proofs.Common.{sym, ◌∙◌}
use Rattle.oidc_provider.proofs.SignsIn.{signed_in, composed, grants_it, not_refused, no_refusal, never_caused, caused_by, refused_with}
use Rattle.oidc_provider.proofs.logins.sign_in.Goals as goal

pub returns-in-Ok-clause-signs_in : goal.returns-in-Ok-clause-signs_in
returns-in-Ok-clause-signs_in g c =
    signed_in g.AC.AdditionalClaims.read_of g.GC.GenderClaim.read_of g.AC.AdditionalClaims.write_of g.GC.GenderClaim.write_of _ _ _ _ _ _ _ _ c.as_str.ensures.value
    c.in-Ok.ensures.kept _ _ c.as_sign_in.ensures c.call_back.ensures.signs_in

pub returns-in-Ok-clause-grants : goal.returns-in-Ok-clause-grants
returns-in-Ok-clause-grants g c = λ h may.
    grants_it c.call_back.result _ c.as_sign_in.ensures

pub returns-in-Ok-clause-composed : goal.returns-in-Ok-clause-composed
returns-in-Ok-clause-composed g c =
    composed g.AC.AdditionalClaims.read_of g.GC.GenderClaim.read_of g.AC.AdditionalClaims.write_of g.GC.GenderClaim.write_of _ _ _ _ _ _ _ _ c.as_str.ensures.value
    c.in-Ok.ensures.kept _ _ c.as_sign_in.ensures _ _ c.call_back.ensures.ran c.call_back.ensures.store
    c.call_back.ensures.unspent c.call_back.ensures.idle

pub returns-in-Ok-clause-cause : goal.returns-in-Ok-clause-cause
returns-in-Ok-clause-cause g c = λ e is. absurd (no_refusal c.call_back.result e (sym c.as_sign_in.ensures ∙ is))

pub returns-in-Ok-clause-refused : goal.returns-in-Ok-clause-refused
returns-in-Ok-clause-refused g c = never_caused _ _ _ _ c.in-Ok.ensures.reply

pub returns-in-Ok-clause-unchanged : goal.returns-in-Ok-clause-unchanged
returns-in-Ok-clause-unchanged g c = λ e is. absurd (no_refusal c.call_back.result e (sym c.as_sign_in.ensures ∙ is))

pub returns-in-Err-clause-grants : goal.returns-in-Err-clause-grants
returns-in-Err-clause-grants g c = λ h may.
    not_refused g.AC.AdditionalClaims.read_of g.GC.GenderClaim.read_of g.AC.AdditionalClaims.write_of g.GC.GenderClaim.write_of _ _ _ _ _ h may c.in-Err.refusal
    c.in-Err.ensures.reply

pub returns-in-Err-clause-cause : goal.returns-in-Err-clause-cause
returns-in-Err-clause-cause g c = λ e is. caused_by _ _ c.in-Err.refusal e is c.in-Err.ensures.reply

pub returns-in-Err-clause-refused : goal.returns-in-Err-clause-refused
returns-in-Err-clause-refused g c = refused_with _ _ _ c.in-Err.refusal c.in-Err.ensures.reply
