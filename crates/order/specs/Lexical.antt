-- The order of byte strings. Assumes nothing.
use Rattle.std.specs.Prelude.{◌≡◌, ℕ, zero, suc, ◌<◌, ◌≤◌, true, false, List, [], ◌∷◌, length, take, ◌≢◌, nat_lt, slice_index, refl}
use Rattle.std.specs.declared.cmp.Ordering.TheVariants.{Less, Equal, Greater}
use Rattle.std.specs.declared.cmp.Ordering.{Ordering}
use Rattle.std.proofs.Common.{sym, ◌∙◌, arith, rules}
use Rattle.std.proofs.lemmas.Bool.{ltb-true, false≢true, true≢false}
use Rattle.std.proofs.lemmas.List.{take_all}
use Rattle.std.proofs.lemmas.Cmp.{ranked}
use Rattle.std.specs.Ordering.{MatchOrdering, nat_cmp, ordering_then}
use Rattle.std.specs.Cmp.Lexicographic.{slice_cmp}
use Rattle.order.specs.Orders.{Total, lex_less}
use Rattle.order.specs.Comparisons.{Compares}
use Rattle.order.specs.Totals.{total_from}

module _ (x y : ℕ) (xs ys : List ℕ) where
  pub step_lt : x < y → lex_less (x ∷ xs) (y ∷ ys) ≡ true
  step_lt = search rules

  pub step_gt : y < x → lex_less (x ∷ xs) (y ∷ ys) ≡ false
  step_gt = search rules

  pub step_eq : x ≡ y → lex_less (x ∷ xs) (y ∷ ys) ≡ lex_less xs ys
  step_eq = search rules

asym : (a b : List ℕ) → lex_less a b ≡ true → lex_less b a ≡ false
asym [] [] h = absurd (false≢true h)
asym [] (y ∷ ys) h = refl
asym (x ∷ xs) [] h = absurd (false≢true h)
asym (x ∷ xs) (y ∷ ys) h = search (asym xs ys, rules)

conn : (a b : List ℕ) → lex_less a b ≡ false → lex_less b a ≡ false → a ≡ b
conn [] [] h k = refl
conn [] (y ∷ ys) h k = absurd (true≢false h)
conn (x ∷ xs) [] h k = absurd (true≢false k)
conn (x ∷ xs) (y ∷ ys) h k = search (conn xs ys, rules)

trans : (a b c : List ℕ) → lex_less a b ≡ true → lex_less b c ≡ true → lex_less a c ≡ true
trans [] b [] h k = search rules
trans [] b (z ∷ zs) h k = refl
trans (x ∷ xs) [] c h k = absurd (false≢true h)
trans (x ∷ xs) (y ∷ ys) [] h k = absurd (false≢true k)
trans (x ∷ xs) (y ∷ ys) (z ∷ zs) h k = search (trans xs ys zs, rules)

pub lex_total : Total lex_less
lex_total = total_from lex_less asym conn trans

-- lists that agree below i are in the order of what they have there
pub lex_at : (i : ℕ) (a b : List ℕ) → take i a ≡ take i b → i < length a → i < length b → slice_index a i < slice_index b i → lex_less a b ≡ true
lex_at i [] b e h k l = absurd (omega arith)
lex_at i (x ∷ xs) [] e h k l = absurd (omega arith)
lex_at zero (x ∷ xs) (y ∷ ys) e h k l = step_lt x y xs ys l
lex_at (suc i) (x ∷ xs) (y ∷ ys) e h k l =
    let f : x ≡ y = cc in
    let t : take i xs ≡ take i ys = cc in
    step_eq x y xs ys f ∙ lex_at i xs ys t (omega arith) (omega arith) l

-- lists that agree in their first n entries, and have no more, are equal
pub same_whole : (n : ℕ) (a b : List ℕ) → take n a ≡ take n b → length a ≤ n → length b ≤ n → a ≡ b
same_whole n a b e h k = sym (take_all n a h) ∙ e ∙ take_all n b k

-- where lists first differ, they compare as what they have there
pub compares_at : (i : ℕ) (a b : List ℕ) (o : Ordering) → take i a ≡ take i b → i < length a → i < length b → (o ≢ Equal)
    → Compares nat_lt (slice_index a i) (slice_index b i) o → Compares lex_less a b o
compares_at i a b Less e h k n l = lex_at i a b e h k (ltb-true (slice_index a i) (slice_index b i) l)
compares_at i a b Equal e h k n l = absurd (n refl)
compares_at i a b Greater e h k n l = lex_at i b a (sym e) k h (ltb-true (slice_index b i) (slice_index a i) l)

lex_step : (x y : ℕ) (xs ys : List ℕ) (o p : Ordering) → MatchOrdering o (x < y) (x ≡ y) (y < x) → Compares lex_less xs ys p → Compares lex_less (x ∷ xs) (y ∷ ys) (ordering_then o p)
lex_step = search (step_lt, step_eq, rules)

-- the library's comparison of lists of numbers is in this order
pub lex_agrees : (a b : List ℕ) → Compares lex_less a b (slice_cmp nat_cmp a b)
lex_agrees [] [] = refl
lex_agrees [] (y ∷ ys) = refl
lex_agrees (x ∷ xs) [] = refl
lex_agrees (x ∷ xs) (y ∷ ys) = lex_step x y xs ys (nat_cmp x y) (slice_cmp nat_cmp xs ys) (ranked x y (nat_cmp x y) refl) (lex_agrees xs ys)
