-- The refusal of a book, by its number and what it hands back. Assumes nothing.
use Rattle.refusals.specs.declared.Refusal.{Refusal}
use Rattle.refusals.specs.Refusals.{refusal}
use Rattle.book.specs.declared.error.BookError.{BookError}
use Rattle.book.specs.declared.error.BookError.TheVariants.{Full}

-- the value handed back is the pair
abbrev pub refusal_of : {P : Type 0} → BookError P → Refusal P
refusal_of (Full pair) = refusal 12 pair
