-- Total orders: their parts, how one is made of them, and those of pairs, of values told apart by another and of tagged values. Assumes nothing.
use Rattle.std.specs.Prelude.{◌≡◌, ℕ, Bool, true, false, cond, ltb, ◌⊎◌, ◌==◌, ◌≢◌, nat_lt}
use Rattle.std.proofs.Common.{rules}
use Rattle.order.specs.Orders.{Total, ExactlyOne, pair_less}

module _ {X : Type 0} {less : X → X → Bool} (t : Total less) where
  pub asymmetric : (a b : X) → less a b ≡ true → less b a ≡ false
  asymmetric = search (t.trichotomy, rules)

  pub irreflexive : (a : X) → less a a ≡ false
  irreflexive = search (asymmetric, rules)

  pub connected : (a b : X) → less a b ≡ false → less b a ≡ false → a ≡ b
  connected = search (t.trichotomy, rules)

module _ {X : Type 0} (less : X → X → Bool) (asym : (a b : X) → less a b ≡ true → less b a ≡ false)
    (conn : (a b : X) → less a b ≡ false → less b a ≡ false → a ≡ b) where
  irrefl : (a b : X) → less a b ≡ true → a ≢ b
  irrefl = search (asym, rules)

  one_of : (a b : X) → ExactlyOne (less a b ≡ true) (a ≡ b) (less b a ≡ true)
  one_of = search (asym, conn, irrefl, rules)

  pub total_from : ((a b c : X) → less a b ≡ true → less b c ≡ true → less a c ≡ true) → Total less
  total_from trans = record { trichotomy = one_of; transitive = trans }

-- the order of pairs
module _ {X Y : Type 0} {f : X → X → Bool} {g : Y → Y → Bool} (s : Total f) (t : Total g) where
  -- a pair is less by its first part, or by its second where the first are equal
  pub pair_cases : (a b : X × Y) → pair_less f g a b ≡ true → (f a.0 b.0 ≡ true) ⊎ ((a.0 ≡ b.0) × (g a.1 b.1 ≡ true))
  pair_cases = search (connected s, rules)

  pub pair_first : (a b : X × Y) → f a.0 b.0 ≡ true → pair_less f g a b ≡ true
  pair_first = search rules

  pub pair_second : (a b : X × Y) → a.0 ≡ b.0 → g a.1 b.1 ≡ true → pair_less f g a b ≡ true
  pair_second = search (irreflexive s, rules)

  pair_asym : (a b : X × Y) → pair_less f g a b ≡ true → pair_less f g b a ≡ false
  pair_asym = search (asymmetric s, irreflexive s, asymmetric t, connected s, rules)

  pair_conn : (a b : X × Y) → pair_less f g a b ≡ false → pair_less f g b a ≡ false → a ≡ b
  pair_conn = search (connected s, connected t, irreflexive s, rules)

  pair_trans : (a b c : X × Y) → pair_less f g a b ≡ true → pair_less f g b c ≡ true → pair_less f g a c ≡ true
  pair_trans = search (s.transitive, t.transitive, connected s, irreflexive s, rules)

  pub pair_total : Total (pair_less f g)
  pair_total = total_from (pair_less f g) pair_asym pair_conn pair_trans

-- values that another value tells apart are ordered as that one is
module _ {X Y : Type 0} (by : X → Y) (one : (a b : X) → by a ≡ by b → a ≡ b) {f : Y → Y → Bool} (t : Total f) where
  pub total_by : Total (λ (a b : X). f (by a) (by b))
  total_by =
      total_from (λ (a b : X). f (by a) (by b)) (λ a b. asymmetric t (by a) (by b)) (λ a b h k. one a b (connected t (by a) (by b) h k))
      (λ a b c. t.transitive (by a) (by b) (by c))

-- values in the order of a number, their tag, and those of one tag in an order of their own
module _ {X : Type 0} (tag : X → ℕ) (content : X → X → Bool) (asym : (a b : X) → content a b ≡ true → content b a ≡ false)
    (conn : (a b : X) → tag a ≡ tag b → content a b ≡ false → content b a ≡ false → a ≡ b)
    (trans : (a b c : X) → content a b ≡ true → content b c ≡ true → content a c ≡ true) where
  abbrev less : X → X → Bool
  less a b = cond (tag a == tag b) (content a b) (nat_lt (tag a) (tag b))

  tagged_asym : (a b : X) → less a b ≡ true → less b a ≡ false
  tagged_asym = search (asym, rules)

  tagged_conn : (a b : X) → less a b ≡ false → less b a ≡ false → a ≡ b
  tagged_conn = search (conn, rules)

  tagged_trans : (a b c : X) → less a b ≡ true → less b c ≡ true → less a c ≡ true
  tagged_trans = search (trans, rules)

  pub tagged_total : Total (λ (a b : X). cond (tag a == tag b) (content a b) (nat_lt (tag a) (tag b)))
  tagged_total = total_from less tagged_asym tagged_conn tagged_trans

pub number_total : Total ltb
number_total = search rules
