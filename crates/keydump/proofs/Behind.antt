-- What stands behind a name at the front of a text. Assumes nothing.
use Rattle.std.proofs.Common.{◌≡◌, ◌≢◌, ℕ, ◌<◌, List, [], ◌∷◌, ◌++◌, length, sym, ap, ◌∙◌, inl, inr, arith, Option, Some, None, MatchOption, Bor}
use Rattle.std.proofs.lemmas.List.{append-nil, append_cancel_left, nil_from_length}
use Rattle.keydump.specs.Lines.{HasDigits}

-- a text that does not begin with the name
pub without : (text name : List ℕ) → ((rest : List ℕ) → text ≡ name ++ rest → ⊥) → (digits : List ℕ) → HasDigits name text digits → ⊥
without text name n digits (inl h) = n [] (h.0 ∙ sym (append-nil name))
without text name n digits (inr h) = n (32 ∷ digits) h

module _ (text name rest : List ℕ) (e : text ≡ name ++ rest) where
  pub alone : length rest ≡ 0 → HasDigits name text rest
  alone l =
      let z : rest ≡ [] = nil_from_length rest l in
      inl (e ∙ ap (λ (x : List ℕ). name ++ x) z ∙ append-nil name, z)

  -- what a space is taken from the front of
  pub spaced : 0 < length rest → (r : Option (Bor (List ℕ))) → MatchOption r ((digits : List ℕ) → rest ≢ 32 ∷ digits) (λ x. rest ≡ 32 ∷ x.now)
      → MatchOption r ((digits : List ℕ) → HasDigits name text digits → ⊥) (λ x. HasDigits name text x.now)
  spaced l None n = unspaced
    where
      unspaced : (digits : List ℕ) → HasDigits name text digits → ⊥
      unspaced digits (inl h) =
          let z : rest ≡ [] = append_cancel_left name rest [] (sym e ∙ h.0 ∙ sym (append-nil name)) in
          omega (arith, ap length z)
      unspaced digits (inr h) = n digits (append_cancel_left name rest (32 ∷ digits) (sym e ∙ h))
  spaced l (Some x) h = inr (e ∙ ap (λ (y : List ℕ). name ++ y) h)
