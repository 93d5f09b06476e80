-- What a sweep keeps. Assumes nothing.
use Rattle.std.specs.Prelude.{◌≡◌, ℕ, Bool, cond, List, [], ◌∷◌, length, take, drop, fold, filter}
use Rattle.memory.specs.Rings.{around}

-- the entries that pass a test that may change, by what it notes, as they go by; they keep their order
abbrev pub retained : {S X : Type 0} → (S → X → Bool) → (S → X → S) → S → List X → List X
retained passes noted s [] = []
retained passes noted s (x ∷ xs) = cond (passes s x) (x ∷ retained passes noted (noted s x) xs) (retained passes noted (noted s x) xs)

-- what a test notes does not change its answers
abbrev pub Steady : {S X : Type 0} → (S → X → Bool) → (S → X → S) → Type 0
Steady {S} {X} passes noted = (s : S) (x y : X) → passes (noted s x) y ≡ passes s y

-- A sweep, by a test that was s and is t, of the len entries from the place head on in the first size slots of a list; count of them stay.
pub record Swept {S X : Type 0} (passes : S → X → Bool) (noted : S → X → S) (s t : S) (before after : List X) (size head len count : ℕ) : Type 0 where
  pub entries : around (take size after) head count ≡ retained passes noted s (around (take size before) head len)
  pub state : t ≡ fold noted s (around (take size before) head len)
  pub stay : count ≡ length (around (take size after) head count)
  -- by a steady test, exactly those that pass it
  pub steady : Steady passes noted → around (take size after) head count ≡ filter (passes s) (around (take size before) head len)
  -- the slots behind are as they were
  pub beyond : drop size after ≡ drop size before
