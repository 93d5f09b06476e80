use Rattle.std.proofs.Common.{◌≡◌, ◌+◌, ◌++◌, length, take}
use Rattle.leb128.specs.Unsigned.{encode}
use Rattle.leb128.proofs.put.Given as goal

abbrev pub invariant-loop-slot : goal.invariant-loop-slot
invariant-loop-slot l = (l.slot-index + length (encode l.rest) ≡ length (encode l.n)) × (encode l.n ≡ take l.slot-index l.front ++ encode l.rest)
