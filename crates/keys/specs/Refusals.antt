-- The refusals of reading a key, by their numbers and what they hand back, and which bytes meet which. Assumes nothing.
use Rattle.std.specs.Prelude.{◌≡◌, ℕ, ◌+◌, ◌^◌, ◌<◌, List, ◌∷◌, ◌++◌, length, drop, slice_index}
use Rattle.refusals.specs.declared.Refusal.{Refusal}
use Rattle.refusals.specs.Refusals.{refusal}
use Rattle.leb128.specs.Unsigned.{encode}
use Rattle.leb128.specs.Refusals.{Refuses as NumberRefuses}
use Rattle.keys.specs.declared.error.Layer.TheVariants as layer
use Rattle.keys.specs.declared.error.Field.{Field}
use Rattle.keys.specs.declared.error.Field.TheVariants.{Tag, Digest, Height, Epoch, View}
use Rattle.keys.specs.declared.error.Location.{Location}
use Rattle.keys.specs.declared.error.Location.TheVariants.{InField, AtTag}
use Rattle.keys.specs.declared.error.ReadError.{ReadError}
use Rattle.keys.specs.declared.error.ReadError.TheVariants.{Truncated, TooLarge, Padded, UnknownTag}

abbrev pub refusal_of : ReadError → Refusal Location
refusal_of (Truncated layer field place) = refusal 1 (InField layer field place)
refusal_of (TooLarge layer field place) = refusal 2 (InField layer field place)
refusal_of (Padded layer field place) = refusal 3 (InField layer field place)
refusal_of (UnknownTag layer tag place) = refusal 4 (AtTag layer tag place)

-- the number of this field begins at the place s: a height and an epoch behind the tag, a view behind its epoch
abbrev pub Begins : List ℕ → Field → ℕ → Type 0
Begins bs Tag s = ⊥
Begins bs Digest s = ⊥
Begins bs Height s = (0 < length bs) × (slice_index bs 0 ≡ 1) × (s ≡ 1)
Begins bs Epoch s = (0 < length bs) × (slice_index bs 0 ≡ 2) × (s ≡ 1)
Begins bs View s = (e : ℕ) × (rest : List ℕ) × (bs ≡ 2 ∷ (encode e ++ rest)) × (s ≡ 1 + length (encode e)) × (e < 2 ^ 64)

-- which refusal the bytes bs meet, where a digest has size bytes
pub data Refuses (size : ℕ) (bs : List ℕ) : Refusal Location → Type 0 where
  -- there is no tag
  no_tag : length bs ≡ 0 → Refuses size bs (refusal 1 (InField layer.Key Tag 0))
  -- the tag is above 2
  unknown_tag : (t : ℕ) → 0 < length bs → t ≡ slice_index bs 0 → 2 < t → Refuses size bs (refusal 4 (AtTag layer.Key t 0))
  -- the bytes end inside the digest
  short_digest : (p : ℕ) → 0 < length bs → slice_index bs 0 ≡ 0 → length bs < 1 + size → p ≡ length bs → Refuses size bs (refusal 1 (InField layer.Key Digest p))
  -- the number of a field meets a refusal, at its byte q
  in_number : (f : Field) (s m q p : ℕ) → Begins bs f s → NumberRefuses (drop s bs) (refusal m q) → p ≡ s + q → Refuses size bs (refusal m (InField layer.Number f p))
