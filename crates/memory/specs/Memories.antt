-- Lent memory and its refusal. Assumes nothing.
use Rattle.std.specs.Prelude.{ℕ, ◌≤◌}
use Rattle.refusals.specs.Refusals.{refusal}
use Rattle.refusals.specs.declared.Refusal.{Refusal}
use Rattle.memory.specs.declared.Nothing.{Nothing}
use Rattle.memory.specs.declared.MemoryError.{MemoryError}
use Rattle.memory.specs.declared.MemoryError.TheVariants.{Unfit}

-- a size within its limits, and memory as long as it at least
abbrev pub Fits : ℕ → ℕ → ℕ → ℕ → Type 0
Fits least most size room = (least ≤ size) × (size ≤ most) × (size ≤ room)

abbrev pub nothing : Nothing
nothing = record {}

abbrev pub refusal_of : MemoryError → Refusal Nothing
refusal_of Unfit = refusal 6 nothing
