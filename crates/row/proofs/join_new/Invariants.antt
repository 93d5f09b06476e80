use Rattle.std.proofs.Common.{◌≡◌, false, take}
use Rattle.row.specs.Joined.{among}
use Rattle.row.proofs.Joining.{Joining}
use Rattle.row.proofs.join_new.Given as goal

abbrev pub invariant-loop-held : goal.invariant-loop-held
invariant-loop-held g l = among g.T.PartialEq.eq l.target (take l.held-index l.held-items) ≡ false

abbrev pub invariant-next : goal.invariant-next
invariant-next g l = Joining g.T.PartialEq.eq l.fn.slots l.list l.slots l.fn.len l.target-index l.end
