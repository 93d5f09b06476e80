-- The refusal of writing, by its number and what it hands back, and what a write does. Assumes nothing.
use Rattle.std.specs.Prelude.{◌≡◌, ℕ, ◌<◌, ◌≤◌, List, ◌++◌, length, drop, Result, MatchResult}
use Rattle.refusals.specs.declared.Refusal.{Refusal}
use Rattle.refusals.specs.declared.BytesNeeded.{BytesNeeded}
use Rattle.refusals.specs.declared.WriteError.{WriteError}
use Rattle.refusals.specs.declared.WriteError.TheVariants.{OutputTooShort}

-- a refusal of this number, with these values
abbrev pub refusal : {V : Type 0} → ℕ → V → Refusal V
refusal n v = record { number = n; values = v }

abbrev pub bytes_needed : ℕ → BytesNeeded
bytes_needed n = record { 0 = n }

abbrev pub refusal_of : WriteError → Refusal BytesNeeded
refusal_of (OutputTooShort needed) = refusal 5 (bytes_needed needed)

-- What a write of bytes does to an output, before and after: either they stand at its front, and what stood behind them still does,
-- or it is too short for them and as it was.
abbrev pub Writes : List ℕ → List ℕ → List ℕ → Result ℕ WriteError → Type 0
Writes bytes before after r =
    MatchResult r (λ size. (size ≡ length bytes) × (size ≤ length before) × (after ≡ bytes ++ drop size before))
    (λ e. (refusal_of e ≡ refusal 5 (bytes_needed (length bytes))) × (length before < length bytes) × (after ≡ before))
