-- `replay::list::agreeing` meets its contract: the rule may be called on, and no more cases agree than were read. Assumes nothing.
use Rattle.std.proofs.Common.{◌≤◌}
use Rattle.replay.proofs.list.agreeing.Given as goal

abbrev pub invariant-loop : goal.invariant-loop
invariant-loop g l = goal.A-IsAlwaysCallable g l.agrees × (l.agree ≤ l.counter)
