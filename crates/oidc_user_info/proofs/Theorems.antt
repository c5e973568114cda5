-- What crates above may cite: what each reply to a request for user info rests on, by the table, and back.
pub use Rattle.oidc_user_info.proofs.Rows.{NeverWants, Rests, rests, holds_reply, refused_reply}
