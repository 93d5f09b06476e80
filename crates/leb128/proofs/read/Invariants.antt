use Rattle.std.proofs.Common.{◌≡◌, ◌*◌, ◌^◌, ◌<◌, ◌≤◌, take}
use Rattle.leb128.specs.Unsigned.{value_of, Continues}
use Rattle.leb128.proofs.read.Given as goal

abbrev pub invariant-loop-i : goal.invariant-loop-i
invariant-loop-i l = (l.i ≤ 9) × Continues l.bytes l.i × (l.n ≡ value_of (take l.i l.bytes)) × (l.n < 2 ^ (7 * l.i))
