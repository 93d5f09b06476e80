-- What the walk over the fields of a key has read, and what it refuses. Assumes nothing.
use Rattle.std.proofs.Common.{◌≡◌, ℕ, ◌+◌, ◌-◌, ◌^◌, ◌<◌, ◌≤◌, List, ◌∷◌, ◌++◌, length, get_or, take, drop, sym, refl, ap, ◌∙◌, subst, arith, Bor}
use Rattle.std.proofs.lemmas.List.{drop_at, drop-drop, length-drop, length-take-le, take-append-drop}
use Rattle.refusals.specs.Refusals.{refusal}
use Rattle.leb128.specs.Unsigned.{encode}
use Rattle.leb128.specs.Refusals.{Refuses as NumberRefuses}
use Rattle.keys.specs.declared.error.Layer.TheVariants as layer
use Rattle.keys.specs.declared.error.Field.{Field}
use Rattle.keys.specs.declared.error.Field.TheVariants as field
use Rattle.keys.specs.declared.error.Location.TheVariants.{InField, AtTag}
use Rattle.keys.specs.declared.key_ref.KeyRef.{KeyRef}
use Rattle.keys.specs.declared.key_ref.KeyRef.TheVariants.{Block}
use Rattle.keys.specs.Borrowed.{ref_bytes, ShownBy, Borrows}
use Rattle.keys.specs.Refusals.{Begins, Refuses, no_tag, unknown_tag, short_digest, in_number}
use Rattle.keys.proofs.Walking.{some_left, first_left, tag_left, within}

-- the key k was read from place i of bs up to place z
abbrev pub Shows : ℕ → List ℕ → ℕ → KeyRef → ℕ → Type 0
Shows size bs i k z = Borrows size (drop i bs) k (drop z bs) × (z ≡ i + length (ref_bytes k)) × (z ≤ length bs)

shows : (size : ℕ) (bs : List ℕ) (i w z : ℕ) (k : KeyRef) → z ≡ w → drop i bs ≡ ref_bytes k ++ drop w bs → ShownBy size (drop i bs) k → w ≡ i + length (ref_bytes k) → w ≤ length bs
    → Shows size bs i k z
shows size bs i w z k e f s m l =
    let g : drop i bs ≡ ref_bytes k ++ drop z bs = f ∙ ap (λ (j : ℕ). ref_bytes k ++ drop j bs) (sym e) in (
      record { front = g; behind = sym (ap (drop (length (ref_bytes k))) g ∙ drop_at (ref_bytes k) (drop z bs) (length (ref_bytes k)) refl); shown = s },
      e ∙ m,
      subst (λ (j : ℕ). j ≤ length bs) (sym e) l,
    )

-- the tag t was read at i, and the cursor went on to q
module _ (size : ℕ) (bs : List ℕ) (i q t : ℕ) (l : i < length bs) (m : q ≡ i + 1) (g : t ≡ get_or bs i 0) where
  -- what was read behind the tag
  tagged : (u : ℕ) (x : List ℕ) → t ≡ u → drop q bs ≡ x → drop i bs ≡ u ∷ x
  tagged u x e f = tag_left bs i q t l m g ∙ ap (λ (y : ℕ). y ∷ drop q bs) e ∙ ap (λ (y : List ℕ). u ∷ y) f

  next_place : drop 1 (drop i bs) ≡ drop q bs
  next_place = drop-drop 1 i bs ∙ ap (λ (j : ℕ). drop j bs) (sym m)

  pub block : (part : Bor (List ℕ)) (w z : ℕ) → z ≡ w → t ≡ 0 → part.now ≡ take size (drop q bs) → w ≡ q + size → w ≤ length bs → Shows size bs i (Block part) z
  block part w z e n p c b =
      let d : drop q bs ≡ part.now ++ drop w bs =
      sym (take-append-drop size (drop q bs)) ∙ ap (λ (x : List ℕ). x ++ drop size (drop q bs)) (sym p) ∙ ap (λ (x : List ℕ). part.now ++ x) (drop-drop size q bs) ∙ ap (λ (j : ℕ). part.now ++ drop j bs) (sym c) in
      let a : length part.now ≡ size = ap length p ∙ length-take-le size (drop q bs) (omega (arith, length-drop q bs)) in
      shows size bs i w z (Block part) e (tagged 0 (part.now ++ drop w bs) n d) (p ∙ ap (take size) (sym next_place), a) (omega arith) b

  pub refuses_tag : 2 < t → Refuses size (drop i bs) (refusal 4 (AtTag layer.Key t 0))
  refuses_tag h = unknown_tag t (some_left bs i q t l m g) (sym (first_left bs i q t l m g)) h

  pub refuses_digest : t ≡ 0 → length bs < q + size → Refuses size (drop i bs) (refusal 1 (InField layer.Key field.Digest (length bs - i)))
  refuses_digest e h =
      short_digest (length bs - i) (some_left bs i q t l m g) (first_left bs i q t l m g ∙ e) (omega (arith, length-drop i bs)) (sym (length-drop i bs))

  -- a number that begins at the place p of bs
  refuses_number : (f : Field) (p n o : ℕ) → i ≤ p → Begins (drop i bs) f (p - i) → NumberRefuses (drop p bs) (refusal n o) → Refuses size (drop i bs) (refusal n (InField layer.Number f (p - i + o)))
  refuses_number f p n o k b h =
      in_number f (p - i) n o (p - i + o) b (subst (λ (x : List ℕ). NumberRefuses x (refusal n o)) (sym (within bs i p k)) h) refl

  pub refuses_height : (n o : ℕ) → t ≡ 1 → NumberRefuses (drop q bs) (refusal n o) → Refuses size (drop i bs) (refusal n (InField layer.Number field.Height (q - i + o)))
  refuses_height n o e h =
      refuses_number field.Height q n o (omega arith) (some_left bs i q t l m g, first_left bs i q t l m g ∙ e, omega arith) h

  pub refuses_epoch : (n o : ℕ) → t ≡ 2 → NumberRefuses (drop q bs) (refusal n o) → Refuses size (drop i bs) (refusal n (InField layer.Number field.Epoch (q - i + o)))
  refuses_epoch n o e h =
      refuses_number field.Epoch q n o (omega arith) (some_left bs i q t l m g, first_left bs i q t l m g ∙ e, omega arith) h

  pub refuses_view : (e p n o : ℕ) → t ≡ 2 → e < 2 ^ 64 → drop q bs ≡ encode e ++ drop p bs → p ≡ q + length (encode e) → NumberRefuses (drop p bs) (refusal n o)
      → Refuses size (drop i bs) (refusal n (InField layer.Number field.View (p - i + o)))
  refuses_view e p n o s f d c h = refuses_number field.View p n o (omega arith) (e, drop p bs, tagged 2 (encode e ++ drop p bs) s d, omega arith, f) h

pub refuses_end : (size : ℕ) (bs : List ℕ) (i : ℕ) → length bs ≤ i → Refuses size (drop i bs) (refusal 1 (InField layer.Key field.Tag 0))
refuses_end size bs i h = no_tag (omega (arith, length-drop i bs))
