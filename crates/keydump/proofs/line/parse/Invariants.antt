use Rattle.std.proofs.Common.{ℕ, ◌<◌, List, get_or}
use Rattle.keydump.specs.declared.line.DigestType.TheVariants.{Bytes32}
use Rattle.keydump.specs.Lines.{name_of, HasDigits}
use Rattle.keydump.proofs.line.parse.Given as goal

abbrev pub invariant-loop-digest : goal.invariant-loop-digest
invariant-loop-digest l = (k : ℕ) → k < l.digest-index → (digits : List ℕ) → HasDigits (name_of (get_or l.digest-items k Bytes32)) l.text digits → ⊥
