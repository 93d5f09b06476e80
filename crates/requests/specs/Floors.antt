-- Which pairs of key and annotation stand above a floor. Assumes nothing.
use Rattle.std.specs.Prelude.{ℕ, ◌<◌, IfSome, Some, None, Option}
use Rattle.types.specs.declared.cutoff.Cutoff.{Cutoff}
use Rattle.types.specs.declared.height.Height.{Height}
use Rattle.types.specs.declared.round.Round.{Round}
use Rattle.types.specs.Rounds.{Covers}
use Rattle.keys.specs.declared.key.Key.{Key}
use Rattle.keys.specs.declared.key.Key.TheVariants as key
use Rattle.requests.specs.declared.annotation.Finalized.TheVariants.{ByHeight, ByRound}
use Rattle.requests.specs.declared.annotation.Annotation.{Annotation}
use Rattle.requests.specs.declared.annotation.Annotation.TheVariants as annotation

-- the height that a pair is bound to: a finalized key's own, whatever the annotation; of a block that of its annotation, if it has one
abbrev pub height_of : {D : Type 0} → Key D → Annotation → Option ℕ
height_of (key.Finalized h) a = Some h.0
height_of (key.Notarized r) a = None
height_of (key.Block d) (annotation.Notarization r) = None
height_of (key.Block d) (annotation.Untrusted h) = Some h.0
height_of (key.Block d) (annotation.Certified h) = Some h.0
height_of (key.Block d) (annotation.Finalized (ByHeight h)) = Some h.0
height_of (key.Block d) (annotation.Finalized (ByRound r)) = None

-- the round that a pair is bound to: a notarized key's own, whatever the annotation; of a block that of its finalization, if it is known by round
abbrev pub round_of : {D : Type 0} → Key D → Annotation → Option Round
round_of (key.Notarized r) a = Some r
round_of (key.Finalized h) a = None
round_of (key.Block d) (annotation.Notarization r) = None
round_of (key.Block d) (annotation.Untrusted h) = None
round_of (key.Block d) (annotation.Certified h) = None
round_of (key.Block d) (annotation.Finalized (ByHeight h)) = None
round_of (key.Block d) (annotation.Finalized (ByRound r)) = Some r

-- a pair that is bound to a height is above a floor if its height is higher, any other always is
abbrev pub AboveHeight : {D : Type 0} → Height → Key D → Annotation → Type 0
AboveHeight floor k a = IfSome (height_of k a) (λ h. floor.0 < h)

-- a pair that is bound to a round is above a cutoff that does not cover its round, any other always is
abbrev pub AboveRound : {D : Type 0} → Cutoff → Key D → Annotation → Type 0
AboveRound cutoff k a = IfSome (round_of k a) (λ r. Covers cutoff r → ⊥)
