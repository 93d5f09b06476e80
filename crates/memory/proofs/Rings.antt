-- Laws of a ring. Assumes nothing.
use Rattle.std.proofs.Common.{◌≡◌, ℕ, ◌+◌, ◌-◌, ◌<◌, ◌≤◌, min, List, ◌∷◌, [], ◌++◌, length, get_or, take, set, append_assoc, arith, length-set, length-take}
use lib.Seq.{take-set-lt}
use Rattle.std.proofs.lemmas.List.{drop-set-add, take-set-le, set-append_left, drop-set-lt, set-append_right, take_more_set, take_more, drop_more, take-append-le, get_or_append_left, get_or-append_right, get_or-drop, get_or-take, drop_all, take_all, take_min, get_or-set_same}
use Rattle.std.proofs.lemmas.Bool.Decides.{nat_tests}
use Rattle.std.proofs.lemmas.Grind.{common_steps}
use Rattle.memory.specs.Rings.{turned, around, placed}

pub length-turned : {X : Type 0} (xs : List X) (h : ℕ) → length (turned xs h) ≡ length xs
length-turned xs h = grind (arith, common_steps)

turned_end : {X : Type 0} (xs : List X) (h : ℕ) → length xs ≤ h → turned xs h ≡ xs
turned_end xs h le = grind (arith, drop_all, take_all)

turned-set : {X : Type 0} (xs : List X) (h i p : ℕ) (y : X) → h ≤ length xs → i < length xs → p ≡ placed (length xs) h i → turned (set xs p y) h ≡ set (turned xs h) i y
turned-set xs h i p y le lt at =
    grind (arith, common_steps, nat_tests, drop-set-add, take-set-le, set-append_left, drop-set-lt, take-set-lt, set-append_right)

-- Whatever h and n are.
pub length-around_any : {X : Type 0} (xs : List X) (h n : ℕ) → length (around xs h n) ≡ min n (length xs)
length-around_any xs h n = grind (arith, common_steps)

pub all_any : {X : Type 0} (xs : List X) (h n m : ℕ) → m ≡ min n (length xs) → around xs h n ≡ take m (turned xs h)
all_any xs h n m count = grind (arith, common_steps, take_min)

module _ {X : Type 0} (xs : List X) (h i p : ℕ) (lt : i < length xs) (at : p ≡ placed (length xs) (min h (length xs)) i) where
  pub turned-set_any : (y : X) → turned (set xs p y) h ≡ set (turned xs h) i y
  turned-set_any y = grind (arith, nat_tests, length-set {A = X}, turned-set, turned_end)

  pub turned_get_any : (d : X) → get_or xs p d ≡ get_or (turned xs h) i d
  turned_get_any d = grind (arith, common_steps, nat_tests, get_or_append_left, get_or-append_right, get_or-drop, get_or-take)

-- the first is taken
around_pop : {X : Type 0} (xs : List X) (h n : ℕ) (d : X) → h < length xs → n < length xs → around xs h (n + 1) ≡ get_or xs h d ∷ around xs (h + 1) n
around_pop xs h n d lt ln = grind (arith, common_steps, drop_more, take_more, append_assoc, take-append-le)

-- one is put in front of the first
around_before : {X : Type 0} (xs : List X) (h n : ℕ) (y : X) → h < length xs → n < length xs → around (set xs h y) h (n + 1) ≡ y ∷ around xs (h + 1) n
around_before xs h n y lt ln =
    let one = around_pop (set xs h y) h n y (simp length-set lt) (simp length-set ln) in
    let two = turned-set xs (h + 1) (length xs - 1) h y (omega arith) (omega arith) (grind (arith, nat_tests)) in
    grind (arith, one, two, take-set-le, get_or-set_same)

-- the first place
turned_first : {X : Type 0} (xs : List X) (h p : ℕ) → 0 < length xs → h ≤ length xs → p ≡ placed (length xs) h 0 → turned xs h ≡ turned xs p
turned_first xs h p some le at = grind (arith, common_steps, nat_tests, turned_end)

-- the place before the first
turned_last : {X : Type 0} (xs : List X) (h p : ℕ) → 0 < length xs → h ≤ length xs → p ≡ placed (length xs) h (length xs - 1) → turned xs (p + 1) ≡ turned xs h
turned_last xs h p some le at = grind (arith, common_steps, nat_tests, turned_end)

-- What the calls do to the ring in the first m slots of a list. Its n entries stand from the place h on.
module _ {X : Type 0} (xs : List X) (m h n p : ℕ) (fits : m ≤ length xs) (within : h ≤ m) (inside : p < m) where
  abbrev front : List X
  front = take m xs

  -- one more behind the last
  pub ring_back : (y : X) → n < m → p ≡ placed m h n → around (take m (set xs p y)) h (n + 1) ≡ around front h n ++ y ∷ []
  ring_back y some at =
      grind (arith, take-set-lt m xs p y inside, turned-set front h n p y, take_more_set (turned front h) n y, length-take m xs, length-turned front h)

  -- one more before the first
  pub ring_front : (y : X) → n < m → p ≡ placed m h (m - 1) → around (take m (set xs p y)) p (n + 1) ≡ y ∷ around front h n
  ring_front y some at = grind (arith, common_steps, around_before, turned_last, take-set-lt)

  -- the first is taken
  pub ring_pop : (d : X) → 0 < n → n ≤ m → p ≡ placed m h 0 → around front h n ≡ get_or xs p d ∷ around front (p + 1) (n - 1)
  ring_pop d some le at = grind (arith, around_pop front p (n - 1) d, turned_first front h p, get_or-take m xs p d, length-take m xs)
