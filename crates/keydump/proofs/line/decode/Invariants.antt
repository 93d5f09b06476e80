use Rattle.std.proofs.Common.{◌≡◌, ℕ, ◌+◌, ◌*◌, ◌/◌, ◌%◌, ◌<◌, length, get_or, vec_items}
use Rattle.keydump.specs.Hexadecimal.{HexDigit}
use Rattle.keydump.proofs.line.decode.Given as goal

abbrev pub invariant-loop-i : goal.invariant-loop-i
invariant-loop-i l =
    (length (vec_items l.bytes) ≡ l.i) × ((k : ℕ) → k < l.i → HexDigit (get_or l.text (2 * k) 0) (get_or (vec_items l.bytes) k 0 / 16))
    × ((k : ℕ) → k < l.i → HexDigit (get_or l.text (2 * k + 1) 0) (get_or (vec_items l.bytes) k 0 % 16))
