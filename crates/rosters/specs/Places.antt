-- Who has left, by a row of bits in lent memory. Assumes nothing.
use Rattle.std.specs.Prelude.{◌≡◌, ℕ, Bool, List, length, drop}
use Rattle.rosters.specs.Bits.{bytes_for, has_place, bits_left}
use Rattle.rosters.specs.declared.bits.BitRoster.{BitRoster}

abbrev pub place_in : BitRoster → ℕ → Bool
place_in r = has_place r.memory.bits.now r.memory.places

abbrev pub left_in : BitRoster → ℕ → Bool
left_in r = bits_left r.memory.bits.now r.memory.places

-- the memory beyond the places
abbrev pub beyond : BitRoster → List ℕ
beyond r = drop (bytes_for r.memory.places) r.memory.bits.now

-- what no call changes: who has a place, and the memory beyond the places
abbrev pub Kept : BitRoster → BitRoster → Type 0
Kept before after = (after.memory.places ≡ before.memory.places) × (length after.memory.bits.now ≡ length before.memory.bits.now) × (beyond after ≡ beyond before)
