-- A row of bits: eight places to a byte, the first at its lowest bit. Assumes nothing.
use Rattle.std.specs.Prelude.{ℕ, ◌+◌, ◌*◌, ◌/◌, ◌%◌, ◌^◌, ◌≤◌, min, Bool, true, cond, ◌&&◌, List, length, ◌==◌, nat_lt, slice_index}

-- how many bytes so many places take
abbrev pub bytes_for : ℕ → ℕ
bytes_for places = places / 8 + min (places % 8) 1

-- at most 65,536 places, and memory with a bit for each
abbrev pub FitsBits : ℕ → ℕ → Type 0
FitsBits places bytes = (places ≤ 65536) × (places ≤ 8 * bytes)

-- whether the bit at a place is set
abbrev pub bit_set : List ℕ → ℕ → Bool
bit_set bytes place = slice_index bytes (place / 8) / 2 ^ (place % 8) % 2 == 1

-- whether a number has a place in the row
abbrev pub has_place : List ℕ → ℕ → ℕ → Bool
has_place bytes places n = nat_lt n places && nat_lt (n / 8) (length bytes)

-- who has left: those whose bit is set, and all who have no place
abbrev pub bits_left : List ℕ → ℕ → ℕ → Bool
bits_left bytes places n = cond (has_place bytes places n) (bit_set bytes n) true
