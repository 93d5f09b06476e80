-- What holds at each place of a list, once one more stands at its end. Assumes nothing.
use Rattle.std.proofs.Common.{◌≡◌, ℕ, ◌+◌, ◌<◌, List, [], ◌∷◌, ◌++◌, length, get_or, sym, ap, ◌∙◌, subst, inl, inr, arith}
use Rattle.std.proofs.lemmas.Bool.{cases_lt}
use Rattle.std.proofs.lemmas.List.{get_or_append_left, get_or_push}

pub grown : (P : ℕ → ℕ → Type 0) (xs ys : List ℕ) (b i : ℕ) → ys ≡ xs ++ b ∷ [] → length xs ≡ i → ((k : ℕ) → k < i → P k (get_or xs k 0)) → P i b
    → (k : ℕ) → k < i + 1 → P k (get_or ys k 0)
grown P xs ys b i e l h p k s =
    elim (cases_lt k i) [
      | inl m ↦ subst (P k) (sym (ap (λ (z : List ℕ). get_or z k 0) e ∙ get_or_append_left xs (b ∷ []) 0 k (omega arith))) (h k m)
      | inr m ↦
          let q : k ≡ i = omega arith in
          subst (λ (j : ℕ). P j (get_or ys j 0)) (sym q) (subst (P i) (sym (ap (λ (z : List ℕ). get_or z i 0) e ∙ get_or_push xs b 0 i l)) p)
    ]
