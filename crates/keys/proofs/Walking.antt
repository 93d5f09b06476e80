-- Parts of bytes that are read one after the other. Assumes nothing.
use Rattle.std.proofs.Common.{◌≡◌, ℕ, ◌+◌, ◌-◌, ◌<◌, ◌≤◌, List, ◌∷◌, length, get_or, drop, sym, ap, ◌∙◌, add-zero, arith}
use Rattle.std.proofs.lemmas.List.{drop-drop, drop_more, get_or-drop, length-drop}

-- a byte was read at p
module _ (bs : List ℕ) (p q b : ℕ) (l : p < length bs) (m : q ≡ p + 1) (g : b ≡ get_or bs p 0) where
  pub some_left : 0 < length (drop p bs)
  some_left = omega (arith, length-drop p bs)

  pub first_left : get_or (drop p bs) 0 0 ≡ b
  first_left = get_or-drop p bs 0 0 ∙ ap (λ (j : ℕ). get_or bs j 0) (add-zero p) ∙ sym g

  pub tag_left : drop p bs ≡ b ∷ drop q bs
  tag_left = drop_more bs p 0 l ∙ ap (λ (y : ℕ). y ∷ drop (p + 1) bs) (sym g) ∙ ap (λ (j : ℕ). b ∷ drop j bs) (sym m)

-- what stands past q stands past q - p of what stands past p
pub within : (bs : List ℕ) (p q : ℕ) → p ≤ q → drop (q - p) (drop p bs) ≡ drop q bs
within bs p q h = drop-drop (q - p) p bs ∙ ap (λ (j : ℕ). drop j bs) (omega arith)
