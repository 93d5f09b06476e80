-- The worked examples. Assumes nothing.
use Rattle.std.specs.Prelude.{◌≡◌, ℕ, List, [], ◌∷◌}
use Rattle.refusals.specs.Refusals.{refusal}
use Rattle.types.specs.declared.height.Height.{Height}
use Rattle.types.specs.declared.epoch.Epoch.{Epoch}
use Rattle.types.specs.declared.round.Round.{Round}
use Rattle.types.specs.declared.cutoff.Cutoff.TheVariants as cutoff
use Rattle.types.specs.Rounds.{Covers}
use Rattle.keys.specs.declared.key.Key.TheVariants.{Finalized, Notarized}
use Rattle.keys.specs.declared.error.Layer.TheVariants as layer
use Rattle.keys.specs.declared.error.Field.TheVariants as field
use Rattle.keys.specs.declared.error.Location.TheVariants.{InField, AtTag}
use Rattle.keys.specs.Keys.{key_bytes}
use Rattle.keys.specs.Refusals.{Refuses}

abbrev pub height : ℕ → Height
height n = record { 0 = n }

abbrev pub epoch : ℕ → Epoch
epoch n = record { 0 = n }

abbrev pub round : ℕ → ℕ → Round
round e v = record { epoch = record { 0 = e }; view = record { 0 = v } }

-- with the digests of one type
pub record Examples {D : Type 0} (image : D → List ℕ) (size : ℕ) : Type 0 where
  pub finalized_300 : key_bytes image (Finalized (height 300)) ≡ 0x01 ∷ 0xAC ∷ 0x02 ∷ []
  pub notarized_1_128 : key_bytes image (Notarized (round 1 128)) ≡ 0x02 ∷ 0x01 ∷ 0x80 ∷ 0x01 ∷ []
  pub finalized_highest : key_bytes image (Finalized (height 0xFFFF_FFFF_FFFF_FFFF))
      ≡ 0x01 ∷ 0xFF ∷ 0xFF ∷ 0xFF ∷ 0xFF ∷ 0xFF ∷ 0xFF ∷ 0xFF ∷ 0xFF ∷ 0xFF ∷ 0x01 ∷ []
  pub too_large : Refuses size (0x01 ∷ 0xFF ∷ 0xFF ∷ 0xFF ∷ 0xFF ∷ 0xFF ∷ 0xFF ∷ 0xFF ∷ 0xFF ∷ 0xFF ∷ 0x02 ∷ []) (refusal 2 (InField layer.Number field.Height 10))
  pub padded : Refuses size (0x01 ∷ 0x80 ∷ 0x00 ∷ []) (refusal 3 (InField layer.Number field.Height 2))
  pub unknown_tag : Refuses size (0x03 ∷ []) (refusal 4 (AtTag layer.Key 3 0))
  pub no_bytes : Refuses size [] (refusal 1 (InField layer.Key field.Tag 0))
  pub round_covers_itself : Covers (cutoff.Round (round 3 5)) (round 3 5)
  pub round_covers_no_later : Covers (cutoff.Round (round 3 5)) (round 3 6) → ⊥
  pub epoch_covers_its_last : Covers (cutoff.Epoch (epoch 3)) (round 3 0xFFFF_FFFF_FFFF_FFFF)
  pub epoch_covers_no_later : Covers (cutoff.Epoch (epoch 3)) (round 4 0) → ⊥
