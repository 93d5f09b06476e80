use Rattle.std.proofs.Common.{◌≡◌, ◌-◌, length}
use Rattle.keydump.proofs.dump.Dump.keys.Given as goal

abbrev pub invariant-loop-e : goal.invariant-loop-e
invariant-loop-e g l = l.reader.cursor.bytes.now ≡ l.bytes

abbrev pub decreases-loop-e : goal.decreases-loop-e
decreases-loop-e g l = length l.bytes - l.reader.cursor.place
