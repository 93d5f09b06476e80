-- Whether a pair is above a floor, as a test. Assumes nothing.
use Rattle.std.specs.Prelude.{ℕ, Bool, true, nat_lt, Some, None, Option}
use Rattle.types.specs.declared.cutoff.Cutoff.{Cutoff}
use Rattle.types.specs.declared.cutoff.Cutoff.TheVariants as cutoff
use Rattle.types.specs.declared.height.Height.{Height}
use Rattle.types.specs.declared.round.Round.{Round}
use Rattle.types.specs.Rounds.{round_less}
use Rattle.keys.specs.declared.key.Key.{Key}
use Rattle.requests.specs.declared.annotation.Annotation.{Annotation}
use Rattle.requests.specs.Floors.{height_of, round_of}

abbrev pub above : ℕ → Option ℕ → Bool
above floor None = true
above floor (Some h) = nat_lt floor h

abbrev pub behind : Cutoff → Option Round → Bool
behind cutoff None = true
behind (cutoff.Round last) (Some r) = round_less last r
behind (cutoff.Epoch last) (Some r) = nat_lt last.0 r.epoch.0

abbrev pub above_height : {D : Type 0} → Height → Key D × Annotation → Bool
above_height floor p = above floor.0 (height_of p.0 p.1)

abbrev pub above_round : {D : Type 0} → Cutoff → Key D × Annotation → Bool
above_round cutoff p = behind cutoff (round_of p.0 p.1)
