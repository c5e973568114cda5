-- What a call to open a session replies.
use Rattle.std.proofs.Common.{◌≡◌, true, false, Ok, Err, ap, ◌∙◌}
use Rattle.std.specs.Prelude.{◌<ℤ◌, ◌≤ℤ◌, not, is_some}
use Rattle.oidc_oauth2.specs.Replies.{◌>>◌, ◌when◌}
use Rattle.oidc_session.specs.Sessions.{Sessions, session_at, Opening, open_reply}
use Rattle.oidc_session.specs.declared.errors.OpenError.TheVariants.{Ended, Taken}
use Rattle.oidc_session.proofs.Facts.{less_back, not_less_back}

module _ (sessions : Sessions) (o : Opening) where
  -- the moment isn't before its end
  pub late : o.session.end ≤ℤ o.now → open_reply sessions o ≡ Err Ended
  late h = λ i. (Ended when not (not_less_back o.now o.session.end h i)) >> (Taken when is_some (session_at sessions o.id o.now))

  in_time : o.now <ℤ o.session.end → open_reply sessions o ≡ (Taken when is_some (session_at sessions o.id o.now))
  in_time h = λ i. (Ended when not (less_back o.now o.session.end h i)) >> (Taken when is_some (session_at sessions o.id o.now))

  -- a session of its id is there
  pub stands : o.now <ℤ o.session.end → is_some (session_at sessions o.id o.now) ≡ true → open_reply sessions o ≡ Err Taken
  stands h there = in_time h ∙ ap (λ b. Taken when b) there

  -- none is
  pub free : o.now <ℤ o.session.end → is_some (session_at sessions o.id o.now) ≡ false → open_reply sessions o ≡ Ok tt
  free h none = in_time h ∙ ap (λ b. Taken when b) none
