-- What an insert and a remove do to the entries, as a list and as a map. Assumes nothing.
use Rattle.std.specs.Prelude.{◌≡◌, ℕ, ◌<◌, Bool, List, ◌∷◌, ◌++◌, length, Some, None, Ok, Err, Option, Result}
use Rattle.memory.specs.declared.Full.{Full}
use Rattle.table.specs.declared.Entry.{Entry}
use Rattle.table.specs.Maps.{entry_of, Absent, Sole, Assigned, Without}
use Rattle.table.specs.Orders.{Around}

module _ {K V : Type 0} (less : K → K → Bool) (xs : List (Entry K V)) (k : K) where
  -- a new value stands under a key that stood already
  pub record Replaced (old new : V) (ys : List (Entry K V)) : Type 0 where
    pub front : List (Entry K V)
    pub back : List (Entry K V)
    pub before : xs ≡ front ++ entry_of k old ∷ back
    pub after : ys ≡ front ++ entry_of k new ∷ back
    pub around : Around less front k back
    pub was : Sole xs k old
    pub map : Assigned xs k new ys

  -- a key that was absent stands, with a value
  pub record Added (v : V) (ys : List (Entry K V)) : Type 0 where
    pub front : List (Entry K V)
    pub back : List (Entry K V)
    pub before : xs ≡ front ++ back
    pub after : ys ≡ front ++ entry_of k v ∷ back
    pub around : Around less front k back
    pub was : Absent xs k
    pub map : Assigned xs k v ys

  -- a key that stood is absent
  pub record Dropped (old : V) (ys : List (Entry K V)) : Type 0 where
    pub front : List (Entry K V)
    pub back : List (Entry K V)
    pub before : xs ≡ front ++ entry_of k old ∷ back
    pub after : ys ≡ front ++ back
    pub around : Around less front k back
    pub was : Sole xs k old
    pub map : Without xs k ys

  -- An insert, by its answer, into a table that has room for cap entries: the value that stood under the key is replaced and given back;
  -- a new key is added where there is room, and else refused, and nothing changes.
  abbrev pub Inserted : ℕ → V → List (Entry K V) → Result (Option V) Full → Type 0
  Inserted cap v ys (Ok (Some old)) = Replaced old v ys
  Inserted cap v ys (Ok None) = Added v ys × (length xs < cap)
  Inserted cap v ys (Err e) = Absent xs k × (length xs ≡ cap) × (ys ≡ xs)

  -- a remove, by its answer
  abbrev pub Removed : List (Entry K V) → Option V → Type 0
  Removed ys (Some old) = Dropped old ys
  Removed ys None = Absent xs k × (ys ≡ xs)
