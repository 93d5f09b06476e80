-- The targets of a row, and the memory that it leaves alone. Assumes nothing.
use Rattle.std.specs.Prelude.{◌≡◌, ℕ, List, take, drop}
use Rattle.row.specs.declared.Row.{Row}

-- the targets, in the order in which they came
abbrev pub items : {T : Type 0} → Row T → List T
items r = take r.len r.slots.now

-- how many targets fit
abbrev pub capacity : {T : Type 0} → Row T → ℕ
capacity r = r.size

-- the lent memory beyond the row's size
abbrev pub beyond : {T : Type 0} → Row T → List T
beyond r = drop r.size r.slots.now

-- what no call changes: how many targets fit, and the memory beyond the size
abbrev pub Kept : {T : Type 0} → Row T → Row T → Type 0
Kept before after = (capacity after ≡ capacity before) × (beyond after ≡ beyond before)
