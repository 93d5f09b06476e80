-- A borrowed key: which parts of the bytes it and the rest are. Assumes nothing.
use Rattle.std.specs.Prelude.{◌≡◌, ℕ, ◌+◌, ◌^◌, ◌<◌, ◌≤◌, List, ◌∷◌, ◌++◌, length, take, drop}
use Rattle.leb128.specs.Unsigned.{encode}
use Rattle.refusals.specs.declared.Refusal.{Refusal}
use Rattle.refusals.specs.Refusals.{refusal}
use Rattle.keys.specs.declared.error.Layer.TheVariants as layer
use Rattle.keys.specs.declared.error.Field.TheVariants.{Digest}
use Rattle.keys.specs.declared.error.Location.{Location}
use Rattle.keys.specs.declared.error.Location.TheVariants.{InField}
use Rattle.keys.specs.declared.key.Key.{Key}
use Rattle.keys.specs.declared.key.Key.TheVariants as key
use Rattle.keys.specs.declared.key_ref.KeyRef.{KeyRef}
use Rattle.keys.specs.declared.key_ref.KeyRef.TheVariants.{Block, Finalized, Notarized}

-- the bytes under a borrowed key
abbrev pub ref_bytes : KeyRef → List ℕ
ref_bytes (Block part) = 0 ∷ part.now
ref_bytes (Finalized h) = 1 ∷ encode h.0
ref_bytes (Notarized r) = 2 ∷ (encode r.epoch.0 ++ encode r.view.0)

-- its digest is the size bytes of bs behind the tag, its numbers have 64 bits
abbrev pub ShownBy : ℕ → List ℕ → KeyRef → Type 0
ShownBy size bs (Block part) = (part.now ≡ take size (drop 1 bs)) × (length part.now ≡ size)
ShownBy size bs (Finalized h) = h.0 < 2 ^ 64
ShownBy size bs (Notarized r) = (r.epoch.0 < 2 ^ 64) × (r.view.0 < 2 ^ 64)

-- k stands at the front of bs, and rest behind it
pub record Borrows (size : ℕ) (bs : List ℕ) (k : KeyRef) (rest : List ℕ) : Type 0 where
  pub front : bs ≡ ref_bytes k ++ rest
  pub behind : rest ≡ drop (length (ref_bytes k)) bs
  pub shown : ShownBy size bs k

-- a borrowed key is a view of this one: the same case, with the same content
abbrev pub Views : {D : Type 0} → (D → List ℕ) → KeyRef → Key D → Type 0
Views image (Block part) (key.Block d) = part.now ≡ image d
Views image (Block part) (key.Finalized g) = ⊥
Views image (Block part) (key.Notarized q) = ⊥
Views image (Finalized h) (key.Block d) = ⊥
Views image (Finalized h) (key.Finalized g) = h ≡ g
Views image (Finalized h) (key.Notarized q) = ⊥
Views image (Notarized r) (key.Block d) = ⊥
Views image (Notarized r) (key.Finalized g) = ⊥
Views image (Notarized r) (key.Notarized q) = r ≡ q

-- its copy: a digest is what stands in the first size bytes of the part
abbrev pub Copies : {D : Type 0} → ℕ → (D → List ℕ) → (D → Type 0) → KeyRef → Key D → Type 0
Copies size image valid (Block part) (key.Block d) = (size ≤ length part.now) × (image d ≡ take size part.now) × valid d
Copies size image valid (Block part) (key.Finalized g) = ⊥
Copies size image valid (Block part) (key.Notarized q) = ⊥
Copies size image valid (Finalized h) (key.Block d) = ⊥
Copies size image valid (Finalized h) (key.Finalized g) = g ≡ h
Copies size image valid (Finalized h) (key.Notarized q) = ⊥
Copies size image valid (Notarized r) (key.Block d) = ⊥
Copies size image valid (Notarized r) (key.Finalized g) = ⊥
Copies size image valid (Notarized r) (key.Notarized q) = q ≡ r

-- the refusal of a copy: the part ends inside the digest, behind the tag
abbrev pub TooShort : ℕ → KeyRef → Refusal Location → Type 0
TooShort size (Block part) f = (length part.now < size) × (f ≡ refusal 1 (InField layer.Key Digest (1 + length part.now)))
TooShort size (Finalized h) f = ⊥
TooShort size (Notarized r) f = ⊥
