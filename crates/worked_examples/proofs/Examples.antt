-- The worked examples hold. Assumes nothing.
use Rattle.std.proofs.Common.{◌≡◌, ℕ, zero, suc, ◌+◌, ◌/◌, ◌%◌, ◌<◌, ◌≤◌, List, [], ◌∷◌, ◌++◌, get_or, replicate, refl, ap, ◌∙◌, inl, inr, arith, lit<, lit≤}
use Rattle.std.proofs.lemmas.Bool.{false≢true}
use Rattle.refusals.specs.Refusals.{refusal}
use Rattle.types.specs.declared.round.Round.{Round}
use Rattle.leb128.specs.Unsigned.{encode, Continues}
use Rattle.leb128.proofs.Numbers.{encode_last, encode_more}
use Rattle.leb128.specs.Refusals as number
use Rattle.keys.specs.declared.error.Layer.TheVariants as layer
use Rattle.keys.specs.declared.error.Field.TheVariants as field
use Rattle.keys.specs.declared.error.Location.TheVariants.{InField, AtTag}
use Rattle.keys.specs.declared.key.Key.TheVariants.{Finalized, Notarized}
use Rattle.keys.specs.Keys.{key_bytes}
use Rattle.keys.specs.Refusals.{Refuses, no_tag, unknown_tag, in_number}
use Rattle.worked_examples.specs.Examples.{Examples, height, round}

-- one byte of a number, and the bytes of what is left
more : (n b m : ℕ) {bs : List ℕ} → 128 ≤ n → n % 128 + 128 ≡ b → n / 128 ≡ m → encode m ≡ bs → encode n ≡ b ∷ bs
more n b m h p q e = encode_more n h ∙ ap (λ (x : ℕ). x ∷ encode (n / 128)) p ∙ ap (λ (x : ℕ). b ∷ encode x) q ∙ ap (λ (x : List ℕ). b ∷ x) e

encode_300 : encode 300 ≡ 0xAC ∷ 0x02 ∷ []
encode_300 = more 300 172 2 (lit≤ tt) refl refl (encode_last 2 (lit< tt))

encode_128 : encode 128 ≡ 0x80 ∷ 0x01 ∷ []
encode_128 = more 128 128 1 (lit≤ tt) refl refl (encode_last 1 (lit< tt))

encode_highest : encode 0xFFFF_FFFF_FFFF_FFFF ≡ 0xFF ∷ 0xFF ∷ 0xFF ∷ 0xFF ∷ 0xFF ∷ 0xFF ∷ 0xFF ∷ 0xFF ∷ 0xFF ∷ 0x01 ∷ []
encode_highest = more 18446744073709551615 255 144115188075855871 (lit≤ tt) refl refl (more 144115188075855871 255 1125899906842623 (lit≤ tt) refl refl (more 1125899906842623 255 8796093022207 (lit≤ tt) refl refl (more 8796093022207 255 68719476735 (lit≤ tt) refl refl (more 68719476735 255 536870911 (lit≤ tt) refl refl (more 536870911 255 4194303 (lit≤ tt) refl refl (more 4194303 255 32767 (lit≤ tt) refl refl (more 32767 255 255 (lit≤ tt) refl refl (more 255 255 1 (lit≤ tt) refl refl (encode_last 1 (lit< tt))))))))))

-- bytes FF continue
full : (n k : ℕ) (rest : List ℕ) → k < n → 128 ≤ get_or (replicate n 0xFF ++ rest) k 0
full zero k rest h = absurd (omega arith)
full (suc n) zero rest h = omega arith
full (suc n) (suc k) rest h = full n k rest (omega arith)

first : (b c : ℕ) → 128 ≤ b → Continues (b ∷ c ∷ []) 1
first b c h zero l = h
first b c h (suc k) l = absurd (omega arith)

module _ {D : Type 0} (image : D → List ℕ) (size : ℕ) where
  pub finalized_300 : key_bytes image (Finalized (height 300)) ≡ 0x01 ∷ 0xAC ∷ 0x02 ∷ []
  finalized_300 = ap (λ (x : List ℕ). 1 ∷ x) encode_300

  pub notarized_1_128 : key_bytes image (Notarized (round 1 128)) ≡ 0x02 ∷ 0x01 ∷ 0x80 ∷ 0x01 ∷ []
  notarized_1_128 = ap (λ (x : List ℕ). 2 ∷ (x ++ encode 128)) (encode_last 1 (lit< tt)) ∙ ap (λ (x : List ℕ). 2 ∷ 1 ∷ x) encode_128

  pub finalized_highest : key_bytes image (Finalized (height 0xFFFF_FFFF_FFFF_FFFF)) ≡ 0x01 ∷ 0xFF ∷ 0xFF ∷ 0xFF ∷ 0xFF ∷ 0xFF ∷ 0xFF ∷ 0xFF ∷ 0xFF ∷ 0xFF ∷ 0x01 ∷ []
  finalized_highest = ap (λ (x : List ℕ). 1 ∷ x) encode_highest

  pub too_large : Refuses size (0x01 ∷ 0xFF ∷ 0xFF ∷ 0xFF ∷ 0xFF ∷ 0xFF ∷ 0xFF ∷ 0xFF ∷ 0xFF ∷ 0xFF ∷ 0x02 ∷ []) (refusal 2 (InField layer.Number field.Height 10))
  too_large = in_number field.Height 1 2 9 10 (omega arith, refl, refl) (number.tenth 9 refl (omega arith) (λ k h. full 9 k (0x02 ∷ []) h) (omega arith)) refl

  pub padded : Refuses size (0x01 ∷ 0x80 ∷ 0x00 ∷ []) (refusal 3 (InField layer.Number field.Height 2))
  padded = in_number field.Height 1 3 1 2 (omega arith, refl, refl) (number.padded 1 (omega arith) (omega arith) (omega arith) (first 0x80 0x00 (omega arith)) refl) refl

  pub unknown : Refuses size (0x03 ∷ []) (refusal 4 (AtTag layer.Key 3 0))
  unknown = unknown_tag 3 (omega arith) refl (omega arith)

  pub nothing : Refuses size [] (refusal 1 (InField layer.Key field.Tag 0))
  nothing = no_tag refl

  pub examples : Examples image size
  examples = record {
    finalized_300 = finalized_300;
    notarized_1_128 = notarized_1_128;
    finalized_highest = finalized_highest;
    too_large = too_large;
    padded = padded;
    unknown_tag = unknown;
    no_bytes = nothing;
    round_covers_itself = inr refl;
    round_covers_no_later = λ h. elim h [ inl e ↦ false≢true e | inr e ↦ omega (arith, ap (λ (r : Round). r.view.0) e) ];
    epoch_covers_its_last = omega arith;
    epoch_covers_no_later = λ h. omega arith;
  }
