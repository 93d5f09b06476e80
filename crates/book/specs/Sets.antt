-- The set of the pairs in a book, and what a call does to it. Assumes nothing.
use Rattle.std.specs.Prelude.{◌≡◌, ℕ, ◌+◌, ◌↔◌, ◌⊎◌, ◌≢◌, List, length}
use Rattle.table.specs.declared.Entry.{Entry}
use Rattle.table.specs.Maps.{Holds}

module _ {P : Type 0} where
  -- a pair is among the entries
  abbrev pub IsAmong : List (Entry P (Unit {0})) → P → Type 0
  IsAmong entries p = (v : Unit {0}) × Holds entries p v

  -- a pair comes in, and all others are as they were; n pairs came: none if it was in already, else one
  pub record Entered (before after : List (Entry P (Unit {0}))) (pair : P) (n : ℕ) : Type 0 where
    pub set : (p : P) → IsAmong after p ↔ ((p ≡ pair) ⊎ IsAmong before p)
    pub was_in : IsAmong before pair → n ≡ 0
    pub was_out : (IsAmong before pair → ⊥) → n ≡ 1

  -- a pair goes, and all others are as they were; n pairs went: one if it was in, else none
  pub record Went (before after : List (Entry P (Unit {0}))) (pair : P) (n : ℕ) : Type 0 where
    pub set : (p : P) → IsAmong after p ↔ ((p ≢ pair) × IsAmong before p)
    pub was_in : IsAmong before pair → n ≡ 1
    pub was_out : (IsAmong before pair → ⊥) → n ≡ 0

  -- exactly the pairs stay that are above a floor, and n pairs went
  pub record Raised (Above : P → Type 0) (before after : List (Entry P (Unit {0}))) (n : ℕ) : Type 0 where
    pub set : (p : P) → IsAmong after p ↔ (IsAmong before p × Above p)
    pub count : n + length after ≡ length before
