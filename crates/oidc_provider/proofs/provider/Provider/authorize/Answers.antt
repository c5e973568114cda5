use Rattle.std.proofs.Common.{List, ap, ◌∙◌}
use Rattle.oidc_pairs.specs.Pairs.{pairs}
use Rattle.oidc_provider.specs.Values.{Pairs}
use Rattle.oidc_provider.specs.Provider.{SeenProvider}
use Rattle.oidc_provider.specs.Rows.{provider_of}
use Rattle.oidc_provider.specs.Steps.{asked_by}
use Rattle.oidc_provider.specs.declared.settings.Registration.{Registration}
use Rattle.oidc_provider.specs.declared.errors.AuthorizeError.TheVariants.{Client, Redirect, Request, Subject, CodeUsed, TokenUsed, TokenText}
use Rattle.oidc_provider.proofs.Allowed.{refused, granted}
use Rattle.oidc_provider.proofs.Authorized.{replied_by_parts, keeps_by_parts, caused}
use Rattle.oidc_provider.proofs.provider.Provider.authorize.Goals as goal

pub returns-clause-reply : goal.returns-clause-reply
returns-clause-reply g c =
    replied_by_parts (provider_of c.self.inside.settings c.deref.result.now c.self.inside.grants) c.args.self.now
    (ap (λ (list : List Registration). provider_of c.self.inside.settings list c.self.inside.grants) c.deref.ensures.value
    ∙ ap (λ (p : SeenProvider). provider_of p.settings p.registrations p.grants) c.self.view_is)
    _ _
    (ap (λ (q : Pairs). asked_by q c.args.claims.standard_claims.subject c.args.user_info.standard_claims.subject c.args.code c.args.token)
    (c.in-Ok.ensures ∙ ap pairs c.query_of-text.ensures))
    _ c.authorized_query.ensures.reply

pub returns-clause-kept : goal.returns-clause-kept
returns-clause-kept g c =
    keeps_by_parts (provider_of c.self.inside.settings c.deref.result.now c.self.inside.grants) c.args.self.now
    (ap (λ (list : List Registration). provider_of c.self.inside.settings list c.self.inside.grants) c.deref.ensures.value
    ∙ ap (λ (p : SeenProvider). provider_of p.settings p.registrations p.grants) c.self.view_is)
    _ _
    (ap (λ (q : Pairs). asked_by q c.args.claims.standard_claims.subject c.args.user_info.standard_claims.subject c.args.code c.args.token)
    (c.in-Ok.ensures ∙ ap pairs c.query_of-text.ensures))
    g.AC.AdditionalClaims.read_of g.GC.GenderClaim.read_of g.AC.AdditionalClaims.write_of g.GC.GenderClaim.write_of _ _ _ _
    (ap (λ (p : SeenProvider). record p { grants = c.authorized_query.new.grants }) c.self.view_is) _ c.authorized_query.ensures.kept

pub returns-clause-client : goal.returns-clause-client
returns-clause-client g c = λ is. caused _ _ c.authorized_query.result (returns-clause-reply g c) Client is

pub returns-clause-redirect : goal.returns-clause-redirect
returns-clause-redirect g c = λ is. caused _ _ c.authorized_query.result (returns-clause-reply g c) Redirect is

pub returns-clause-request : goal.returns-clause-request
returns-clause-request g c = λ is. caused _ _ c.authorized_query.result (returns-clause-reply g c) Request is

pub returns-clause-subject : goal.returns-clause-subject
returns-clause-subject g c = λ is. caused _ _ c.authorized_query.result (returns-clause-reply g c) Subject is

pub returns-clause-code_used : goal.returns-clause-code_used
returns-clause-code_used g c = λ is. caused _ _ c.authorized_query.result (returns-clause-reply g c) CodeUsed is

pub returns-clause-token_used : goal.returns-clause-token_used
returns-clause-token_used g c = λ is. caused _ _ c.authorized_query.result (returns-clause-reply g c) TokenUsed is

pub returns-clause-token_text : goal.returns-clause-token_text
returns-clause-token_text g c = λ is. caused _ _ c.authorized_query.result (returns-clause-reply g c) TokenText is

pub returns-clause-refused : goal.returns-clause-refused
returns-clause-refused g c = refused _ _ _ (returns-clause-reply g c)

pub returns-clause-granted : goal.returns-clause-granted
returns-clause-granted g c = granted _ _ _ (returns-clause-reply g c)
