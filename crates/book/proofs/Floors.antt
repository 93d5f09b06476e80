-- The tests of a sweep by a floor say which pairs are above it. Assumes nothing.
use Rattle.std.proofs.Common.{◌≡◌, true, rules}
use Rattle.std.specs.Prelude.{◌↔◌}
use Rattle.types.specs.declared.cutoff.Cutoff.{Cutoff}
use Rattle.types.specs.declared.height.Height.{Height}
use Rattle.keys.specs.declared.key.Key.{Key}
use Rattle.requests.specs.declared.annotation.Annotation.{Annotation}
use Rattle.requests.specs.Floors.{AboveHeight, AboveRound}
use Rattle.book.specs.Floored.{above_height, above_round}

pub height_told : {D : Type 0} (floor : Height) (p : Key D × Annotation) → (above_height floor p ≡ true) ↔ AboveHeight floor p.0 p.1
height_told = search rules

pub round_told : {D : Type 0} (cutoff : Cutoff) (p : Key D × Annotation) → (above_round cutoff p ≡ true) ↔ AboveRound cutoff p.0 p.1
round_told = search rules
