-- A list of entries as a map: which value it holds under which key. Assumes nothing.
use Rattle.std.specs.Prelude.{◌≡◌, ◌⊎◌, List, Some, None, Option, ◌≢◌}
use Rattle.std.specs.List.{Contains}
use Rattle.table.specs.declared.Entry.{Entry}

-- each of two statements follows from the other
abbrev pub Iff : Type 0 → Type 0 → Type 0
Iff P Q = (P → Q) × (Q → P)

abbrev pub entry_of : {K V : Type 0} → K → V → Entry K V
entry_of k v = record { key = k; value = v }

-- the value v is held under the key k
abbrev pub Holds : {K V : Type 0} → List (Entry K V) → K → V → Type 0
Holds xs k v = Contains xs (entry_of k v)

-- no value is held under k
pub record Absent {K V : Type 0} (xs : List (Entry K V)) (k : K) : Type 0 where
  pub none : (v : V) → Holds xs k v → ⊥

-- v is held under k, and no other value
pub record Sole {K V : Type 0} (xs : List (Entry K V)) (k : K) (v : V) : Type 0 where
  pub held : Holds xs k v
  pub only : (w : V) → Holds xs k w → w ≡ v

-- what a look-up of k answers
abbrev pub Lookup : {K V : Type 0} → List (Entry K V) → K → Option V → Type 0
Lookup xs k (Some v) = Sole xs k v
Lookup xs k None = Absent xs k

-- ys holds v under k, and no other value there; under every other key it holds what xs does
abbrev pub Assigned : {K V : Type 0} → List (Entry K V) → K → V → List (Entry K V) → Type 0
Assigned {K} {V} xs k v ys = (k' : K) (v' : V) → Iff (Holds ys k' v') (((k' ≡ k) × (v' ≡ v)) ⊎ ((k' ≢ k) × Holds xs k' v'))

-- ys holds nothing under k; under every other key it holds what xs does
abbrev pub Without : {K V : Type 0} → List (Entry K V) → K → List (Entry K V) → Type 0
Without {K} {V} xs k ys = (k' : K) (v' : V) → Iff (Holds ys k' v') ((k' ≢ k) × Holds xs k' v')
