use Rattle.std.proofs.Common.{◌++◌, ◌∙◌, option_map, codes, ap}
use Rattle.std.specs.Option.{option_copied}
use Rattle.oidc_readers.specs.Writing.{text_member}
use Rattle.oidc_tokens.proofs.id_token.fields.IdTokenFieldsExtraTokenFields.write.Goals as goal

pub returns : goal.returns
returns g c = record {
  members = c.in_ok-append.ensures.items
      ∙ ap (λ l. l ++ c.in_ok-extra_fields.extra_fields.items)
      (c.in_ok-put_optional_text.ensures.put
      ∙ ap (λ name. c.new-members.result.items ++ text_member name (option_copied c.token_text.result)) c.named.ensures
      ∙ ap (λ l. l ++ text_member (codes "id_token") (option_copied c.token_text.result)) c.new-members.ensures.items
      ∙ ap (text_member (codes "id_token")) c.token_text.ensures)
      ∙ ap (λ l. text_member (codes "id_token") (option_map (λ token. token.text) c.args.self.now.id_token) ++ l)
      (c.in_ok-extra_fields.ensures.members ∙ ap (λ f. g.EF.ExtraTokenFields.write_of f.extra_fields) c.self.view_is);
}
