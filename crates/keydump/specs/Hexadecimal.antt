-- Bytes in hexadecimal digits. Assumes nothing.
use Rattle.std.specs.Prelude.{◌≡◌, ℕ, ◌+◌, ◌*◌, ◌/◌, ◌%◌, ◌<◌, ◌≤◌, ◌⊎◌, List, length, slice_index}
use Rattle.keydump.specs.declared.line.LineError.{LineError}
use Rattle.keydump.specs.declared.line.LineError.TheVariants.{UnknownType, NotHexadecimal, HalfByte, NoMemory}

-- the character c is the digit d: 0 to 9, A to F or a to f
abbrev pub HexDigit : ℕ → ℕ → Type 0
HexDigit c d = ((d < 10) × (c ≡ 48 + d)) ⊎ (((10 ≤ d) × (d < 16)) × ((c ≡ 55 + d) ⊎ (c ≡ 87 + d)))

-- two digits for each byte, the high one first
pub record Spells (text bytes : List ℕ) : Type 0 where
  pub size : length text ≡ 2 * length bytes
  pub high : (k : ℕ) → k < length bytes → HexDigit (slice_index text (2 * k)) (slice_index bytes k / 16)
  pub low : (k : ℕ) → k < length bytes → HexDigit (slice_index text (2 * k + 1)) (slice_index bytes k % 16)

-- why text spells no bytes, where its first column is column
abbrev pub NotSpelled : List ℕ → ℕ → LineError → Type 0
NotSpelled text column UnknownType = ⊥
NotSpelled text column (NotHexadecimal c) = (i : ℕ) × (c ≡ column + i) × (i < length text) × ((d : ℕ) → HexDigit (slice_index text i) d → ⊥)
NotSpelled text column HalfByte = length text % 2 ≡ 1
NotSpelled text column NoMemory = Unit {0}
