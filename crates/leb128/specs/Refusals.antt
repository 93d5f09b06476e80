-- The refusals of reading a number, by their numbers and what they hand back, and which bytes meet which. Assumes nothing.
use Rattle.std.specs.Prelude.{◌≡◌, ℕ, ◌<◌, List, length, slice_index}
use Rattle.refusals.specs.declared.Refusal.{Refusal}
use Rattle.refusals.specs.Refusals.{refusal}
use Rattle.leb128.specs.declared.NumberError.{NumberError}
use Rattle.leb128.specs.declared.NumberError.TheVariants.{Truncated, TooLarge, Padded}
use Rattle.leb128.specs.Unsigned.{Continues}

-- the value handed back is the place
abbrev pub refusal_of : NumberError → Refusal ℕ
refusal_of (Truncated place) = refusal 1 place
refusal_of (TooLarge place) = refusal 2 place
refusal_of (Padded place) = refusal 3 place

-- the place p is the first at which the bytes cannot go on as a number; every byte before it says that another follows
pub data Refuses (bs : List ℕ) : Refusal ℕ → Type 0 where
  -- the bytes end there
  ends : (p : ℕ) → p ≡ length bs → p < 10 → Continues bs p → Refuses bs (refusal 1 p)
  -- it is the tenth byte, and above 1
  tenth : (p : ℕ) → p ≡ 9 → p < length bs → Continues bs p → 1 < slice_index bs p → Refuses bs (refusal 2 p)
  -- it is not the first byte, and 00
  padded : (p : ℕ) → 0 < p → p < 10 → p < length bs → Continues bs p → slice_index bs p ≡ 0 → Refuses bs (refusal 3 p)
