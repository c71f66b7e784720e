-- The loop's invariant: below k the sessions and codes are those after the check, from k on the sessions are as they
-- were.
use Rattle.sessions.proofs.Checking.{Turned}
use Rattle.sessions.proofs.time_check.Given as goal

abbrev pub invariant-loop-k : goal.invariant-loop-k
invariant-loop-k l = Turned l.time l.initial.octets l.initial.codes l.octets l.codes l.k
