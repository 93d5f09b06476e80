use Rattle.std.proofs.Common.{◌≡◌, ◌-◌, ◌≤◌, length}
use Rattle.keybench.proofs.read_keys.Given as goal

-- each key that was read took a byte at least
abbrev pub invariant-loop-reader : goal.invariant-loop-reader
invariant-loop-reader l = (l.reader.cursor.bytes.now ≡ l.bytes) × (l.read ≤ l.reader.cursor.place) × (l.reader.cursor.place ≤ length l.bytes) × (l.equal ≤ l.read)

abbrev pub decreases-loop-reader : goal.decreases-loop-reader
decreases-loop-reader l = length l.bytes - l.reader.cursor.place
