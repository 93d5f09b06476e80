-- A table as its entries, and the memory that it leaves alone. Assumes nothing.
use Rattle.std.specs.Prelude.{◌≡◌, ℕ, ◌+◌, List, length, take, drop, Some, None, Ok, Err, Option, Result}
use Rattle.memory.specs.declared.Full.{Full}
use Rattle.table.specs.declared.Entry.{Entry}
use Rattle.table.specs.declared.Table.{Table}

module _ {K V : Type 0} where
  -- the entries, in their order
  abbrev pub items : Table K V → List (Entry K V)
  items t = take t.len t.slots.now

  -- how many entries fit
  abbrev pub capacity : Table K V → ℕ
  capacity t = t.size

  -- the lent memory behind what the table may use
  abbrev pub beyond : Table K V → List (Entry K V)
  beyond t = drop t.size t.slots.now

  -- the same memory, as much of it used, and the rest as it was
  pub record Kept (before after : Table K V) : Type 0 where
    pub room : capacity after ≡ capacity before
    pub rest : beyond after ≡ beyond before

  -- the count after an insert, by its answer; a refusal finds the table full, and leaves it as it was
  abbrev pub Grown : Table K V → Table K V → Result (Option V) Full → Type 0
  Grown before after (Ok (Some old)) = length (items after) ≡ length (items before)
  Grown before after (Ok None) = length (items after) ≡ length (items before) + 1
  Grown before after (Err e) = (length (items before) ≡ capacity before) × (after ≡ before)

  -- the count after a remove, by its answer; where nothing is removed, the table is as it was
  abbrev pub Shrunk : Table K V → Table K V → Option V → Type 0
  Shrunk before after (Some old) = length (items after) + 1 ≡ length (items before)
  Shrunk before after None = after ≡ before
