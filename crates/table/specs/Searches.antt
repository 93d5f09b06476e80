-- What the answer of a search says. Assumes nothing.
use Rattle.std.specs.Prelude.{◌≡◌, ℕ, ◌<◌, ◌≤◌, Bool, List, ◌∷◌, ◌++◌, length, Ok, Err, Result}
use Rattle.table.specs.declared.Entry.{Entry}
use Rattle.table.specs.Maps.{entry_of, Absent}
use Rattle.table.specs.Orders.{Around}

module _ {K V : Type 0} (less : K → K → Bool) (xs : List (Entry K V)) (k : K) where
  -- the key stands in the i-th place
  pub record Found (i : ℕ) : Type 0 where
    pub front : List (Entry K V)
    pub value : V
    pub back : List (Entry K V)
    pub is : xs ≡ front ++ entry_of k value ∷ back
    pub place : length front ≡ i
    pub around : Around less front k back

  -- the key does not stand; the i-th place is where it would
  pub record Missing (i : ℕ) : Type 0 where
    pub front : List (Entry K V)
    pub back : List (Entry K V)
    pub is : xs ≡ front ++ back
    pub place : length front ≡ i
    pub around : Around less front k back
    pub absent : Absent xs k

  abbrev pub Searched : Result ℕ ℕ → Type 0
  Searched (Ok i) = Found i
  Searched (Err i) = Missing i

-- the place that a search answers is one of n, or the one behind them
abbrev pub Within : ℕ → Result ℕ ℕ → Type 0
Within n (Ok i) = i < n
Within n (Err i) = i ≤ n
