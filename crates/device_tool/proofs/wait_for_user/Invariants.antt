-- The transport may be called again.
use Rattle.device_tool.proofs.wait_for_user.Given as goal

abbrev pub invariant-loop : goal.invariant-loop
invariant-loop g l = g.H.SyncHttpClient.ready l.http
