use Rattle.std.proofs.Common.{◌≤◌}
use Rattle.powercut.proofs.trial.count_lines.Given as goal

abbrev pub invariant-loop-line : goal.invariant-loop-line
invariant-loop-line g l = l.count ≤ l.line
