-- Counts that stop at the highest number. Assumes nothing.
use Rattle.std.specs.Prelude.{ℕ, ◌+◌, ◌-◌, ◌^◌, min, List, slice_index, slice_set}
use Rattle.keydump.specs.declared.totals.Event.{Event}
use Rattle.keydump.specs.declared.totals.Event.TheVariants.{Key, WrittenAsRead, Less, Equal, Greater, Refusal, BadLine}

abbrev pub place_of : Event → ℕ
place_of Key = 0
place_of WrittenAsRead = 1
place_of Less = 2
place_of Equal = 3
place_of Greater = 4
place_of Refusal = 5
place_of BadLine = 6

-- one more at one place
abbrev pub counted : List ℕ → ℕ → List ℕ
counted counts i = slice_set counts i (min (slice_index counts i + 1) (2 ^ 64 - 1))
