-- A ring: entries that stand one behind another in a list whose first place follows its last. Assumes nothing.
use Rattle.std.specs.Prelude.{ℕ, ◌+◌, ◌-◌, cond, List, ◌++◌, take, drop, nat_lt}

-- a list from the place h on, and then its first h places
abbrev pub turned : {X : Type 0} → List X → ℕ → List X
turned xs h = drop h xs ++ take h xs

-- n entries from the place h on
abbrev pub around : {X : Type 0} → List X → ℕ → ℕ → List X
around xs h n = take n (turned xs h)

-- where, of m places, the i-th entry from the place h on stands
abbrev pub placed : ℕ → ℕ → ℕ → ℕ
placed m h i = cond (nat_lt i (m - h)) (h + i) (i - (m - h))
