use Rattle.memory.proofs.Sweeping.{Underway}
use Rattle.memory.proofs.ring.sweep.Given as goal

abbrev pub invariant-loop-i : goal.invariant-loop-i
invariant-loop-i g l = Underway g.S.Filter.passes g.S.Filter.noted l.initial.test l.initial.slots l.size l.head l.test l.slots l.count l.i
