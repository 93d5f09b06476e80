use Rattle.std.proofs.Common.{◌≤◌, length}
use Rattle.keybench.proofs.write_keys.Given as goal

abbrev pub invariant-loop-i : goal.invariant-loop-i
invariant-loop-i l = l.place ≤ length l.out
