-- Who has left, by those who have not. Assumes nothing.
use Rattle.std.specs.Prelude.{ℕ, Bool, false, not, ◌||◌, List, [], ◌∷◌, ◌==◌}
use Rattle.table.specs.declared.Entry.{Entry}

-- whether a number is among the keys
abbrev pub among : List (Entry ℕ (Unit {0})) → ℕ → Bool
among [] n = false
among (e ∷ es) n = n == e.key || among es n

-- who has left: all who are not among those present
abbrev pub absent : List (Entry ℕ (Unit {0})) → ℕ → Bool
absent present n = not (among present n)
