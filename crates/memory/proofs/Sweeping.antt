-- A sweep of a ring, entry by entry. Assumes nothing.
use Rattle.std.proofs.Common.{◌≡◌, ℕ, ◌+◌, ◌<◌, ◌≤◌, Bool, true, false, cond, List, [], ◌∷◌, ◌++◌, length, get_or, take, drop, set, fold, filter, sym, refl, ap, ◌∙◌, arith, length-set, length-take, min}
use lib.Seq.{take-set-lt}
use Rattle.std.proofs.lemmas.List.{append-nil, get_or-drop, get_or-take, take_more, take_more_set, drop-set-lt, drop-drop}
use Rattle.std.proofs.lemmas.List.Sums.{fold_more}
use Rattle.std.proofs.lemmas.Grind.{common_steps}
use Rattle.memory.specs.Rings.{turned, placed}
use Rattle.memory.specs.Sweeps.{retained, Steady, Swept}
use Rattle.memory.proofs.Rings.{length-turned, length-around_any, turned-set_any, turned_get_any, all_any}

module _ {S X : Type 0} (passes : S → X → Bool) (noted : S → X → S) where
  -- one entry more goes by
  retained_push : (s : S) (xs : List X) (x : X)
      → retained passes noted s (xs ++ x ∷ []) ≡ retained passes noted s xs ++ cond (passes (fold noted s xs) x) (x ∷ []) []
  retained_push s [] x = refl
  retained_push s (y ∷ xs) x = grind (arith, common_steps, retained_push (noted s y) xs x)

  retained_more : (s : S) (xs : List X) (i : ℕ) (d : X) → i < length xs
      → retained passes noted s (take (i + 1) xs) ≡ retained passes noted s (take i xs) ++ cond (passes (fold noted s (take i xs)) (get_or xs i d)) (get_or xs i d ∷ []) []
  retained_more s xs i d lt = grind (arith, retained_push s (take i xs) (get_or xs i d), take_more xs i d lt)

  -- a test that is steady keeps what it would have kept at first
  steady_at : Steady passes noted → (s t : S) → ((x : X) → passes t x ≡ passes s x) → (xs : List X) → retained passes noted t xs ≡ filter (passes s) xs
  steady_at h s t e [] = refl
  steady_at h s t e (x ∷ xs) = grind (arith, common_steps, e x, steady_at h s (noted t x) (λ y. h t x y ∙ e y) xs)

  pub retained_steady : Steady passes noted → (s : S) (xs : List X) → retained passes noted s xs ≡ filter (passes s) xs
  retained_steady h s xs = steady_at h s s (λ x. refl) xs

  -- Where a sweep stands: ys began as xs; what it kept of the first i entries stands in the first k places, the others are as they were.
  pub record Sweeping (s t : S) (xs ys : List X) (k i : ℕ) : Type 0 where
    pub front : take k ys ≡ retained passes noted s (take i xs)
    pub rest : drop i ys ≡ drop i xs
    pub state : t ≡ fold noted s (take i xs)
    pub behind : k ≤ i
    pub long : length ys ≡ length xs

  module _ {s t : S} {xs ys : List X} {k i : ℕ} (w : Sweeping s t xs ys k i) (inside : i < length ys) (x : X) (read : x ≡ get_or ys i x) where
    here : x ≡ get_or xs i x
    here = grind (arith, read, w.rest, get_or-drop i ys 0 x, get_or-drop i xs 0 x)

    within : i < length xs
    within = let l = w.long in omega arith

    notes : noted t x ≡ fold noted s (take (i + 1) xs)
    notes = grind (arith, here, w.state, fold_more noted s xs i x within)

    beyond : (zs : List X) → drop (i + 1) zs ≡ drop (i + 1) ys → drop (i + 1) zs ≡ drop (i + 1) xs
    beyond zs e = grind (arith, e, w.rest, drop-drop 1 i ys, drop-drop 1 i xs)

    pub sweep_keeps : passes t x ≡ true → Sweeping s (noted t x) xs (set ys k x) (k + 1) (i + 1)
    sweep_keeps e =
        let low = w.behind in
        let l = w.long in
        record {
          front = grind (arith, e, w.front, w.state, here, take_more_set ys k x, retained_more s xs i x within);
          rest = beyond (set ys k x) (drop-set-lt (i + 1) ys k x (omega arith));
          state = notes;
          behind = omega arith;
          long = simp length-set l;
        }

    pub sweep_drops : passes t x ≡ false → Sweeping s (noted t x) xs ys k (i + 1)
    sweep_drops e =
        let low = w.behind in
        record {
          front = grind (arith, e, w.front, w.state, here, retained_more s xs i x within, append-nil (retained passes noted s (take i xs)));
          rest = beyond ys refl;
          state = notes;
          behind = omega arith;
          long = w.long;
        }

-- the first n slots of a list, of which one is written
module _ {X : Type 0} (n p : ℕ) (xs : List X) (y : X) (lt : p < length (take n xs)) where
  pub front_set : take n (set xs p y) ≡ set (take n xs) p y
  front_set = grind (arith, common_steps, take-set-lt n xs p y)

  pub front_get : (d : X) → get_or xs p d ≡ get_or (take n xs) p d
  front_get d = grind (arith, common_steps, get_or-take n xs p d)

  pub behind_set : drop n (set xs p y) ≡ drop n xs
  behind_set = grind (arith, common_steps, drop-set-lt n xs p y)

-- A sweep of the ring in the first n slots of a list, which began as xs. The entries stand from the place h on.
module _ {S X : Type 0} (passes : S → X → Bool) (noted : S → X → S) (s : S) (xs : List X) (n h : ℕ) where
  -- Where it stands: the list is ys, and of the first i entries k stay.
  pub record Underway (t : S) (ys : List X) (k i : ℕ) : Type 0 where
    pub ring : Sweeping passes noted s t (turned (take n xs) h) (turned (take n ys) h) k i
    pub beyond : drop n ys ≡ drop n xs

  -- one entry x more goes by, in the place p of m; the test becomes u
  module _ {t : S} {ys : List X} {k i : ℕ} (w : Underway t ys k i) (m p : ℕ) (x : X) (u : S) (room : m ≡ min n (length ys)) (lt : i < m) (at : p ≡ placed m (min h m) i) (in-ring : p < m) (read : x ≡ get_or ys p x) (after : u ≡ noted t x) where
    abbrev front : List X
    front = take n ys

    wide : m ≡ length front
    wide = simp length-take room

    inside : i < length (turned front h)
    inside = let e = wide in simp length-turned (omega arith)

    entry : x ≡ get_or (turned front h) i x
    entry = grind (arith, at, read, wide, front_get n p ys x, turned_get_any front h i p)

    -- it moves to the place q
    pub underway_kept : passes t x ≡ true → (q : ℕ) → q ≡ placed m (min h m) k → q < m → Underway u (set ys q x) (k + 1) (i + 1)
    underway_kept e q to there =
        let z = wide in
        let low = w.ring.behind in
        let moved : turned (take n (set ys q x)) h ≡ set (turned front h) k x = grind (arith, to, z, front_set n q ys x, turned-set_any front h k q) in
        record {
          ring = rw (after, moved) (sweep_keeps passes noted w.ring inside x entry e);
          beyond = behind_set n q ys x (omega arith) ∙ w.beyond;
        }

    pub underway_dropped : passes t x ≡ false → Underway u ys k (i + 1)
    underway_dropped e = record { ring = rw after (sweep_drops passes noted w.ring inside x entry e); beyond = w.beyond }

  -- all entries went by
  pub underway_last : {t : S} {ys : List X} {k i : ℕ} → Underway t ys k i → (len : ℕ) → i ≡ min len (min n (length xs)) → Swept passes noted s t xs ys n h len k
  underway_last {t} {ys} {k} {i} w len all =
      let ring = w.ring in
      let low = ring.behind in
      let was = length-take n xs in
      let is = length-around_any (take n ys) h k in
      let same = all_any (take n xs) h len i (omega arith) in
      let kept = ring.front ∙ ap (retained passes noted s) (sym same) in
      let long = length-turned (take n xs) h in
      let now = length-turned (take n ys) h in
      let e = ring.long in
      record {
        entries = kept;
        state = ring.state ∙ ap (fold noted s) (sym same);
        stay = omega arith;
        beyond = w.beyond;
        steady = λ steady. kept ∙ retained_steady passes noted steady s _;
      }
