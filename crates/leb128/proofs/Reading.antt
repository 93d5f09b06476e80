-- The two ways of reading: what stands at the front is the only answer, and so is a refusal that is met. Assumes nothing.
use Rattle.std.proofs.Common.{◌≡◌, ℕ, ◌^◌, ◌<◌, List, ◌++◌, length, drop, sym, refl, ap, ◌∙◌}
use Rattle.std.proofs.lemmas.List.{drop_at}
use Rattle.refusals.specs.declared.Refusal.{Refusal}
use Rattle.refusals.specs.Refusals.{refusal}
use Rattle.leb128.specs.Unsigned.{encode, Accepted}
use Rattle.leb128.specs.Refusals.{Refuses}
use Rattle.leb128.proofs.Encodings.{accepted_only}
use Rattle.leb128.proofs.Refused.{one_number, none_begins, one_refusal}

-- the number m stands at the front of bs, and rest behind it
module _ (bs : List ℕ) (m : ℕ) (rest : List ℕ) (w : m < 2 ^ 64) (e : bs ≡ encode m ++ rest) where
  pub number_read : (m < 2 ^ 64) × (bs ≡ encode m ++ rest) × (rest ≡ drop (length (encode m)) bs)
  number_read = (w, e, sym (ap (drop (length (encode m))) e ∙ drop_at (encode m) rest (length (encode m)) refl))

  pub number_only : (n : ℕ) (code s : List ℕ) → n < 2 ^ 64 → Accepted code n → bs ≡ code ++ s → (m ≡ n) × (rest ≡ s)
  number_only n code s l a f = one_number m n rest s (sym e ∙ f ∙ ap (λ (x : List ℕ). x ++ s) (accepted_only code n a))

  pub number_stands : (q p : ℕ) → Refuses bs (refusal q p) → ⊥
  number_stands q p f = none_begins bs (refusal q p) f m rest w e

-- bs meets the refusal r
module _ (bs : List ℕ) (r : Refusal ℕ) (h : Refuses bs r) where
  pub refused_number : (n : ℕ) (code s : List ℕ) → n < 2 ^ 64 → Accepted code n → bs ≡ code ++ s → ⊥
  refused_number n code s l a f = none_begins bs r h n s l (f ∙ ap (λ (x : List ℕ). x ++ s) (accepted_only code n a))

  pub refused_only : (q p : ℕ) → Refuses bs (refusal q p) → r ≡ refusal q p
  refused_only q p f = one_refusal bs r (refusal q p) h f
