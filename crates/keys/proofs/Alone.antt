-- The bytes of a key are those of no other, and meet no refusal; bytes meet one refusal at most. Assumes nothing.
use Rattle.std.proofs.Common.{◌≡◌, ℕ, ◌+◌, ◌^◌, ◌<◌, List, ◌∷◌, ◌++◌, length, get_or, take, drop, sym, refl, ap, ◌∙◌, subst, arith, rules}
use Rattle.std.proofs.lemmas.List.{take_at, drop_at, length-append, append_assoc}
use Rattle.refusals.specs.declared.Refusal.{Refusal}
use Rattle.refusals.specs.Refusals.{refusal}
use Rattle.leb128.specs.Unsigned.{encode}
use Rattle.leb128.specs.Refusals.{Refuses as NumberRefuses}
use Rattle.leb128.proofs.Refused.{none_begins, one_number, one_refusal as one_number_refusal}
use Rattle.types.specs.declared.height.Height.{Height}
use Rattle.types.specs.declared.round.Round.{Round}
use Rattle.keys.specs.declared.key.Key.{Key}
use Rattle.keys.specs.declared.key.Key.TheVariants.{Block, Finalized, Notarized}
use Rattle.keys.specs.declared.error.Layer.TheVariants as layer
use Rattle.keys.specs.declared.error.Field.{Field}
use Rattle.keys.specs.declared.error.Field.TheVariants.{Tag, Digest, Height as HeightField, Epoch, View}
use Rattle.keys.specs.declared.error.Location.{Location}
use Rattle.keys.specs.declared.error.Location.TheVariants.{InField, AtTag}
use Rattle.keys.specs.Keys.{key_bytes, ValidKey, Alone}
use Rattle.keys.specs.Refusals.{Begins, Refuses, no_tag, unknown_tag, short_digest, in_number}

-- lists of one length in front of others
pub fronts : (n : ℕ) (x y r s : List ℕ) → length x ≡ n → length y ≡ n → x ++ r ≡ y ++ s → (x ≡ y) × (r ≡ s)
fronts n x y r s h k e = (sym (take_at x r n h) ∙ ap (take n) e ∙ take_at y s n k, sym (drop_at x r n h) ∙ ap (drop n) e ∙ drop_at y s n k)

pub first : {a b : ℕ} {x y : List ℕ} → a ∷ x ≡ b ∷ y → a ≡ b
first e = cc

pub after : {a b : ℕ} {x y : List ℕ} → a ∷ x ≡ b ∷ y → x ≡ y
after e = cc

-- the first byte of bytes that a key's bytes begin
tag_at : (t : ℕ) (bs x : List ℕ) → bs ≡ t ∷ x → get_or bs 0 0 ≡ t
tag_at t bs x e = ap (λ (y : List ℕ). get_or y 0 0) e

height_of : ℕ → Height
height_of n = record { 0 = n }

round_of : ℕ → ℕ → Round
round_of e v = record { epoch = record { 0 = e }; view = record { 0 = v } }

pub same_height : (g h : Height) → g.0 ≡ h.0 → g ≡ h
unfolding height_of
same_height g h e = ap height_of e

pub same_round : (p q : Round) → p.epoch.0 ≡ q.epoch.0 → p.view.0 ≡ q.view.0 → p ≡ q
unfolding round_of
same_round p q a b = ap (λ (x : ℕ). round_of x p.view.0) a ∙ ap (λ (y : ℕ). round_of q.epoch.0 y) b

-- two numbers in front of others
pub two_numbers : (a b c d : ℕ) (r s : List ℕ) → (encode a ++ encode b) ++ r ≡ (encode c ++ encode d) ++ s → (a ≡ c) × (b ≡ d) × (r ≡ s)
two_numbers a b c d r s e =
    let f = one_number a c (encode b ++ r) (encode d ++ s) (sym (append_assoc (encode a) (encode b) r) ∙ e ∙ append_assoc (encode c) (encode d) s) in
    let g = one_number b d r s f.1 in
    (f.0, g.0, g.1)

-- a field whose number begins somewhere has the tag 1 or 2
tag_of_field : (bs : List ℕ) (f : Field) (s : ℕ) → Begins bs f s → (0 < length bs) × (0 < get_or bs 0 0) × (get_or bs 0 0 < 3)
tag_of_field = search (tag_at, rules)

-- where the view behind an epoch begins
view_at : (bs : List ℕ) (s : ℕ) (b : Begins bs View s) → drop s bs ≡ b.1
view_at bs s b =
    ap (λ (i : ℕ). drop i bs) b.3 ∙ ap (drop (1 + length (encode b.0))) b.2 ∙ drop_at (2 ∷ encode b.0) b.1 (1 + length (encode b.0)) (omega arith)

-- bytes that begin with the tag 0 and a whole digest meet no refusal
module _ (size : ℕ) (bs x rest : List ℕ) (e : bs ≡ 0 ∷ (x ++ rest)) (l : length x ≡ size) where
  pub block_stands : (f : Refusal Location) → Refuses size bs f → ⊥
  block_stands = search (tag_at, tag_of_field, length-append, rules)

-- nor do bytes that begin with the tag 1 and a number
module _ (size : ℕ) (bs : List ℕ) (n : ℕ) (rest : List ℕ) (e : bs ≡ 1 ∷ (encode n ++ rest)) (w : n < 2 ^ 64) where
  height_stands_in : (g : Field) (s : ℕ) (r : Refusal ℕ) → Begins bs g s → NumberRefuses (drop s bs) r → ⊥
  height_stands_in Tag s r b h = b
  height_stands_in Digest s r b h = b
  height_stands_in HeightField s r b h = none_begins (drop s bs) r h n rest w (ap (λ (j : ℕ). drop j bs) b.2 ∙ ap (drop 1) e)
  height_stands_in Epoch s r b h = omega (arith, b.1, tag_at 1 bs _ e)
  height_stands_in View s r b h = omega (arith, tag_at 1 bs _ e, tag_at 2 bs _ b.2)

  pub height_stands : (f : Refusal Location) → Refuses size bs f → ⊥
  height_stands = search (tag_at, height_stands_in, rules)

-- nor do bytes that begin with the tag 2 and two numbers
module _ (size : ℕ) (bs : List ℕ) (n v : ℕ) (rest : List ℕ) (e : bs ≡ 2 ∷ ((encode n ++ encode v) ++ rest)) (w : (n < 2 ^ 64) × (v < 2 ^ 64)) where
  round_stands_in : (g : Field) (s : ℕ) (r : Refusal ℕ) → Begins bs g s → NumberRefuses (drop s bs) r → ⊥
  round_stands_in Tag s r b h = b
  round_stands_in Digest s r b h = b
  round_stands_in HeightField s r b h = omega (arith, b.1, tag_at 2 bs _ e)
  round_stands_in Epoch s r b h =
      none_begins (drop s bs) r h n (encode v ++ rest) w.0 (ap (λ (j : ℕ). drop j bs) b.2 ∙ ap (drop 1) e ∙ append_assoc (encode n) (encode v) rest)
  round_stands_in View s r b h =
      let t : encode b.0 ++ b.1 ≡ encode n ++ (encode v ++ rest) = after (sym b.2 ∙ e) ∙ append_assoc (encode n) (encode v) rest in
      none_begins (drop s bs) r h v rest w.1 (view_at bs s b ∙ (one_number b.0 n b.1 (encode v ++ rest) t).1)

  pub round_stands : (f : Refusal Location) → Refuses size bs f → ⊥
  round_stands = search (tag_at, round_stands_in, rules)

module _ {D : Type 0} (image : D → List ℕ) (size : ℕ) (valid : D → Type 0) (long : (d : D) → valid d → length (image d) ≡ size)
    (one : (a b : D) → valid a → valid b → image a ≡ image b → a ≡ b) where
  pub alone : (k : Key D) → ValidKey valid k → Alone image valid k
  alone (Block a) v (Block b) r s w e =
      let f = fronts size (image a) (image b) r s (long a v) (long b w) (after e) in
      (ap Block (one a b v w f.0), f.1)
  alone (Block a) v (Finalized h) r s w e = absurd (omega (arith, first e))
  alone (Block a) v (Notarized q) r s w e = absurd (omega (arith, first e))
  alone (Finalized g) v (Block b) r s w e = absurd (omega (arith, first e))
  alone (Finalized g) v (Finalized h) r s w e =
      let f = one_number g.0 h.0 r s (after e) in
      (ap Finalized (same_height g h f.0), f.1)
  alone (Finalized g) v (Notarized q) r s w e = absurd (omega (arith, first e))
  alone (Notarized p) v (Block b) r s w e = absurd (omega (arith, first e))
  alone (Notarized p) v (Finalized h) r s w e = absurd (omega (arith, first e))
  alone (Notarized p) v (Notarized q) r s w e =
      let f = two_numbers p.epoch.0 p.view.0 q.epoch.0 q.view.0 r s (after e) in
      (ap Notarized (same_round p q f.0 f.1), f.2)

  -- bytes that a key's bytes begin meet no refusal
  pub not_refused : (bs : List ℕ) (f : Refusal Location) → Refuses size bs f → (k : Key D) (rest : List ℕ) → ValidKey valid k → bs ≡ key_bytes image k ++ rest → ⊥
  not_refused = search (block_stands, height_stands, round_stands, long, rules)

-- an epoch that is refused has no view behind it
no_view : (bs : List ℕ) (s t : ℕ) (r : Refusal ℕ) → Begins bs Epoch s → Begins bs View t → NumberRefuses (drop s bs) r → ⊥
no_view bs s t r b c h = none_begins (drop s bs) r h c.0 c.1 c.4 (ap (λ (j : ℕ). drop j bs) b.2 ∙ ap (drop 1) c.2)

-- bytes meet a refusal in one field's number at most
one_field : (bs : List ℕ) (f g : Field) (s t : ℕ) (q r : Refusal ℕ) → Begins bs f s → Begins bs g t → NumberRefuses (drop s bs) q → NumberRefuses (drop t bs) r
    → (f ≡ g) × (s ≡ t)
one_field bs Tag g s t q r b c h k = absurd b
one_field bs Digest g s t q r b c h k = absurd b
one_field bs HeightField Tag s t q r b c h k = absurd c
one_field bs HeightField Digest s t q r b c h k = absurd c
one_field bs HeightField HeightField s t q r b c h k = (refl, b.2 ∙ sym c.2)
one_field bs HeightField Epoch s t q r b c h k = absurd (omega (arith, b.1, c.1))
one_field bs HeightField View s t q r b c h k = absurd (omega (arith, b.1, tag_at 2 bs _ c.2))
one_field bs Epoch Tag s t q r b c h k = absurd c
one_field bs Epoch Digest s t q r b c h k = absurd c
one_field bs Epoch HeightField s t q r b c h k = absurd (omega (arith, b.1, c.1))
one_field bs Epoch Epoch s t q r b c h k = (refl, b.2 ∙ sym c.2)
one_field bs Epoch View s t q r b c h k = absurd (no_view bs s t q b c h)
one_field bs View Tag s t q r b c h k = absurd c
one_field bs View Digest s t q r b c h k = absurd c
one_field bs View HeightField s t q r b c h k = absurd (omega (arith, c.1, tag_at 2 bs _ b.2))
one_field bs View Epoch s t q r b c h k = absurd (no_view bs t s r c b k)
one_field bs View View s t q r b c h k =
    let e = one_number b.0 c.0 b.1 c.1 (after (sym b.2 ∙ c.2)) in
    (refl, b.3 ∙ ap (λ (n : ℕ). 1 + length (encode n)) e.0 ∙ sym c.3)

-- the refusal of a number at the place s of a key
placed : Field → ℕ → Refusal ℕ → Refusal Location
placed f s r = refusal r.number (InField layer.Number f (s + r.values))

one_placed : (bs : List ℕ) (f g : Field) (s t m n i j p o : ℕ) → Begins bs f s → Begins bs g t → NumberRefuses (drop s bs) (refusal m i) → NumberRefuses (drop t bs) (refusal n j)
    → p ≡ s + i → o ≡ t + j → refusal m (InField layer.Number f p) ≡ refusal n (InField layer.Number g o)
unfolding placed
one_placed bs f g s t m n i j p o b c h k u v =
    let e = one_field bs f g s t (refusal m i) (refusal n j) b c h k in
    let r : refusal m i ≡ refusal n j = one_number_refusal (drop s bs) (refusal m i) (refusal n j) h (subst (λ (x : ℕ). NumberRefuses (drop x bs) (refusal n j)) (sym e.1) k) in
    ap (λ (x : ℕ). refusal m (InField layer.Number f x)) u ∙ ap (placed f s) r ∙ ap (λ (x : ℕ). placed f x (refusal n j)) e.1
    ∙ ap (λ (x : Field). placed x t (refusal n j)) e.0 ∙ ap (λ (x : ℕ). refusal n (InField layer.Number g x)) (sym v)

-- bytes meet one refusal at most
pub one_refusal : (size : ℕ) (bs : List ℕ) (q r : Refusal Location) → Refuses size bs q → Refuses size bs r → q ≡ r
one_refusal size bs q r (no_tag l) (no_tag m) = refl
one_refusal size bs q r (no_tag l) (unknown_tag t m h n) = absurd (omega arith)
one_refusal size bs q r (no_tag l) (short_digest p m h n e) = absurd (omega arith)
one_refusal size bs q r (no_tag l) (in_number g t n j o c k v) = absurd (omega (arith, (tag_of_field bs g t c).0))
one_refusal size bs q r (unknown_tag t l h m) (no_tag n) = absurd (omega arith)
one_refusal size bs q r (unknown_tag t l h m) (unknown_tag u n i j) = ap (λ (x : ℕ). refusal 4 (AtTag layer.Key x 0)) (h ∙ sym i)
one_refusal size bs q r (unknown_tag t l h m) (short_digest p n i j e) = absurd (omega arith)
one_refusal size bs q r (unknown_tag t l h m) (in_number g u n j o c k v) = absurd (omega (arith, (tag_of_field bs g u c).2))
one_refusal size bs q r (short_digest p l h m e) (no_tag n) = absurd (omega arith)
one_refusal size bs q r (short_digest p l h m e) (unknown_tag t n i j) = absurd (omega arith)
one_refusal size bs q r (short_digest p l h m e) (short_digest o n i j f) = ap (λ (x : ℕ). refusal 1 (InField layer.Key Digest x)) (e ∙ sym f)
one_refusal size bs q r (short_digest p l h m e) (in_number g t n j o c k v) = absurd (omega (arith, (tag_of_field bs g t c).1))
one_refusal size bs q r (in_number f s m i p b h u) (no_tag n) = absurd (omega (arith, (tag_of_field bs f s b).0))
one_refusal size bs q r (in_number f s m i p b h u) (unknown_tag t n j k) = absurd (omega (arith, (tag_of_field bs f s b).2))
one_refusal size bs q r (in_number f s m i p b h u) (short_digest o n j k e) = absurd (omega (arith, (tag_of_field bs f s b).1))
one_refusal size bs q r (in_number f s m i p b h u) (in_number g t n j o c k v) = one_placed bs f g s t m n i j p o b c h k u v
