-- Sets of numbers, as tests, and what a change of a roster answers. Assumes nothing.
use Rattle.std.specs.Prelude.{◌≡◌, ℕ, Bool, cond, not, ◌&&◌, ◌||◌, ◌==◌}

-- a set with a number more
abbrev pub added : (ℕ → Bool) → ℕ → ℕ → Bool
added set x n = n == x || set n

-- a set without a number
abbrev pub removed : (ℕ → Bool) → ℕ → ℕ → Bool
removed set x n = not (n == x) && set n

-- A requester leaves: from now on it has left, and nobody else has who had not; 1 if it had not, else 0.
pub record Leaves (before after : ℕ → Bool) (requester answer : ℕ) : Type 0 where
  pub set : (n : ℕ) → after n ≡ added before requester n
  pub count : answer ≡ cond (before requester) 0 1

-- A requester enters: where there is a place for it, it has not left any more, and all others are as they were; 1 if it had left and there is a
-- place, else 0.
pub record Enters (place : Bool) (before after : ℕ → Bool) (requester answer : ℕ) : Type 0 where
  pub set : (n : ℕ) → after n ≡ cond place (removed before requester n) (before n)
  pub count : answer ≡ cond (place && before requester) 1 0
