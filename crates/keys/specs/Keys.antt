-- The bytes of a key, and the order of keys. Assumes nothing.
use Rattle.std.specs.Prelude.{◌≡◌, ℕ, ◌^◌, ◌<◌, Bool, false, cond, List, ◌∷◌, ◌++◌, length, drop, ◌==◌, nat_lt}
use Rattle.leb128.specs.Unsigned.{encode}
use Rattle.types.specs.Rounds.{round_less}
use Rattle.keys.specs.declared.key.Key.{Key}
use Rattle.keys.specs.declared.key.Key.TheVariants.{Block, Finalized, Notarized}

abbrev pub tag_of : {D : Type 0} → Key D → ℕ
tag_of (Block d) = 0
tag_of (Finalized h) = 1
tag_of (Notarized r) = 2

-- what stands behind the tag, where image gives the bytes of a digest
abbrev pub content_bytes : {D : Type 0} → (D → List ℕ) → Key D → List ℕ
content_bytes image (Block d) = image d
content_bytes image (Finalized h) = encode h.0
content_bytes image (Notarized r) = encode r.epoch.0 ++ encode r.view.0

abbrev pub key_bytes : {D : Type 0} → (D → List ℕ) → Key D → List ℕ
key_bytes image k = tag_of k ∷ content_bytes image k

-- a key that code can hold: its numbers have 64 bits
abbrev pub ValidKey : {D : Type 0} → (D → Type 0) → Key D → Type 0
ValidKey valid (Block d) = valid d
ValidKey valid (Finalized h) = h.0 < 2 ^ 64
ValidKey valid (Notarized r) = (r.epoch.0 < 2 ^ 64) × (r.view.0 < 2 ^ 64)

-- the key k stands at the front of bs, and rest behind it
pub record KeyAt {D : Type 0} (image : D → List ℕ) (valid : D → Type 0) (bs : List ℕ) (k : Key D) (rest : List ℕ) : Type 0 where
  pub front : bs ≡ key_bytes image k ++ rest
  pub behind : rest ≡ drop (length (key_bytes image k)) bs
  pub holds : ValidKey valid k

-- no other key has the bytes of k, and none has bytes that begin with them or that they begin with
abbrev pub Alone : {D : Type 0} → (D → List ℕ) → (D → Type 0) → Key D → Type 0
Alone {D} image valid k = (j : Key D) (x y : List ℕ) → ValidKey valid j → key_bytes image k ++ x ≡ key_bytes image j ++ y → (k ≡ j) × (x ≡ y)

-- of two keys with the same tag, whether the first has the lesser content
abbrev pub content_less : {D : Type 0} → (D → D → Bool) → Key D → Key D → Bool
content_less less (Block a) (Block b) = less a b
content_less less (Block a) (Finalized h) = false
content_less less (Block a) (Notarized r) = false
content_less less (Finalized g) (Block b) = false
content_less less (Finalized g) (Finalized h) = nat_lt g.0 h.0
content_less less (Finalized g) (Notarized r) = false
content_less less (Notarized q) (Block b) = false
content_less less (Notarized q) (Finalized h) = false
content_less less (Notarized q) (Notarized r) = round_less q r

-- by tag, then by content
abbrev pub key_less : {D : Type 0} → (D → D → Bool) → Key D → Key D → Bool
key_less less a b = cond (tag_of a == tag_of b) (content_less less a b) (nat_lt (tag_of a) (tag_of b))
