-- What a queue holds. Assumes nothing.
use Rattle.std.specs.Prelude.{◌≡◌, ℕ, List, take, drop}
use Rattle.memory.specs.Rings.{around}
use Rattle.queue.specs.declared.Queue.{Queue}

-- what waits in the queue, the first in front
abbrev pub items : {X : Type 0} → Queue X → List X
items q = around (take q.size q.slots.now) q.head q.len

-- how many may wait
abbrev pub capacity : {X : Type 0} → Queue X → ℕ
capacity q = q.size

-- the lent memory beyond the queue's size
abbrev pub beyond : {X : Type 0} → Queue X → List X
beyond q = drop q.size q.slots.now

-- what no call changes: how many may wait, and the memory beyond the size
abbrev pub Kept : {X : Type 0} → Queue X → Queue X → Type 0
Kept before after = (capacity after ≡ capacity before) × (beyond after ≡ beyond before)
