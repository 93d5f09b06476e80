-- What a strict total order is, and the orders of pairs and of byte strings. Assumes nothing.
use Rattle.std.specs.Prelude.{◌≡◌, ℕ, Bool, true, false, not, ◌&&◌, ◌||◌, ◌⊎◌, List, [], ◌∷◌, nat_lt}

-- one of three statements holds, and neither of the others
abbrev pub ExactlyOne : Type 0 → Type 0 → Type 0 → Type 0
ExactlyOne P Q R = (P × (Q → ⊥) × (R → ⊥)) ⊎ (((P → ⊥) × Q × (R → ⊥)) ⊎ ((P → ⊥) × (Q → ⊥) × R))

pub record Total {X : Type 0} (less : X → X → Bool) : Type 0 where
  pub trichotomy : (a b : X) → ExactlyOne (less a b ≡ true) (a ≡ b) (less b a ≡ true)
  pub transitive : (a b c : X) → less a b ≡ true → less b c ≡ true → less a c ≡ true

-- the first parts decide, and where neither is less than the other the second
abbrev pub pair_less : {X Y : Type 0} → (X → X → Bool) → (Y → Y → Bool) → X × Y → X × Y → Bool
pair_less f g a b = f a.0 b.0 || (not (f b.0 a.0) && g a.1 b.1)

-- the first place where two lists of numbers differ decides; a list is less than one that it begins
abbrev pub lex_less : List ℕ → List ℕ → Bool
lex_less [] [] = false
lex_less [] (y ∷ ys) = true
lex_less (x ∷ xs) [] = false
lex_less (x ∷ xs) (y ∷ ys) = nat_lt x y || (not (nat_lt y x) && lex_less xs ys)
