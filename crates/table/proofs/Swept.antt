-- A sweep of a row, and what it does to the order. Assumes nothing.
use Rattle.std.proofs.Common.{◌≡◌, ℕ, ◌≤◌, Bool, true, List, [], ◌∷◌, length, take, sym, ap, ◌∙◌, arith, length-take}
use Rattle.std.specs.List.{All}
use Rattle.std.proofs.lemmas.List.{append-nil, take-take}
use Rattle.std.proofs.lemmas.List.Elements.{All-cons, All-head, All-tail}
use Rattle.std.proofs.lemmas.Bool.{cond_both}
use Rattle.memory.specs.Rings.{around}
use Rattle.memory.specs.Sweeps.{retained, Swept}
use Rattle.table.specs.declared.Entry.{Entry}
use Rattle.table.specs.Orders.{Rising}

module _ {S X : Type 0} (passes : S → X → Bool) (noted : S → X → S) where
  pub retained_length : (s : S) (xs : List X) → length (retained passes noted s xs) ≤ length xs
  retained_length s [] = omega arith
  retained_length s (x ∷ xs) =
      let rest = retained_length (noted s x) xs in
      cond_both (passes s x) (x ∷ retained passes noted (noted s x) xs) (retained passes noted (noted s x) xs) (λ zs. length zs ≤ length (x ∷ xs)) (λ _. omega arith) (λ _. omega arith)

  retained_all : (P : X → Type 0) (s : S) (xs : List X) → All P xs → All P (retained passes noted s xs)
  retained_all P s [] h = h
  retained_all P s (x ∷ xs) h =
      let rest = retained_all P (noted s x) xs (All-tail P x xs h) in
      cond_both (passes s x) (x ∷ retained passes noted (noted s x) xs) (retained passes noted (noted s x) xs) (All P)
      (λ _. All-cons P x (retained passes noted (noted s x) xs) (All-head P x xs h) rest) (λ _. rest)

  -- what a sweep leaves of the row of len at the front: a row of count entries, those that pass
  pub record RowSwept (s : S) (before after : List X) (len count : ℕ) : Type 0 where
    pub row : take count after ≡ retained passes noted s (take len before)
    pub stay : count ≡ length (take count after)
    pub fewer : count ≤ length (take len before)

  first : (size n : ℕ) (xs : List X) → n ≤ size → around (take size xs) 0 n ≡ take n xs
  first size n xs le = ap (take n) (append-nil (take size xs)) ∙ take-take n size xs le

  pub row_swept : (s t : S) (before after : List X) (size len count : ℕ) → Swept passes noted s t before after size 0 len count → len ≤ size
      → RowSwept s before after len count
  row_swept s t before after size len count swept le =
      let held : count ≡ length (take count (take size after)) = swept.stay ∙ ap (λ zs. length (take count zs)) (append-nil (take size after)) in
      let cut = length-take count (take size after) in
      let all = length-take size after in
      let fits : count ≤ size = omega arith in
      let row : take count after ≡ retained passes noted s (take len before) =
      sym (first size count after fits) ∙ swept.entries ∙ ap (retained passes noted s) (first size len before le) in
      let n : count ≡ length (take count after) = swept.stay ∙ ap length (first size count after fits) in
      let most = retained_length s (take len before) in
      let same = ap length row in
      record { row = row; stay = n; fewer = omega arith }

module _ {S K V : Type 0} (less : K → K → Bool) (passes : S → Entry K V → Bool) (noted : S → Entry K V → S) where
  pub retained_rising : (s : S) (xs : List (Entry K V)) → Rising less xs → Rising less (retained passes noted s xs)
  retained_rising s [] h = tt
  retained_rising s (x ∷ xs) h =
      let rest = retained_rising (noted s x) xs h.1 in
      cond_both (passes s x) (x ∷ retained passes noted (noted s x) xs) (retained passes noted (noted s x) xs) (Rising less)
      (λ _. (retained_all passes noted (λ y. less x.key y.key ≡ true) (noted s x) xs h.0, rest)) (λ _. rest)
