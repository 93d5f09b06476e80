-- Entries in rising order: parts of a list, and the steps of a search by halving. Assumes nothing.
use Rattle.std.proofs.Common.{◌≡◌, ℕ, zero, suc, ◌+◌, ◌<◌, ◌≤◌, Bool, true, List, [], ◌∷◌, ◌++◌, length, get_or, take, drop, sym, refl, ap, ◌∙◌, subst, arith}
use Rattle.std.specs.List.{All}
use Rattle.std.proofs.lemmas.List.{take_at, drop_at, take-append-drop, drop_more, drop_all, length-take-le}
use Rattle.std.proofs.lemmas.List.Elements.{All-nil, All-cons, All-head, All-tail, All-same, All-take, All-drop, All-append, All-weaker, All-more}
use Rattle.order.specs.Orders.{Total}
use Rattle.table.specs.declared.Entry.{Entry}
use Rattle.table.specs.Maps.{entry_of, Absent}
use Rattle.table.specs.Orders.{Rising, Around}
use Rattle.table.specs.Searches.{Found, Missing}
use Rattle.table.proofs.Held.{absent_around}

module _ {X : Type 0} where
  all_parts : (P : X → Type 0) (xs ys : List X) → All P (xs ++ ys) → All P xs × All P ys
  all_parts P xs ys h = (
    All-same P xs (take (length xs) (xs ++ ys)) (sym (take_at xs ys (length xs) refl)) (All-take P (length xs) (xs ++ ys) h),
    All-same P ys (drop (length xs) (xs ++ ys)) (sym (drop_at xs ys (length xs) refl)) (All-drop P (length xs) (xs ++ ys) h),
  )

  pub split_at : (xs : List X) (i : ℕ) (d : X) → i < length xs → xs ≡ take i xs ++ get_or xs i d ∷ drop (i + 1) xs
  split_at xs i d lt = sym (take-append-drop i xs) ∙ ap (λ zs. take i xs ++ zs) (drop_more xs i d lt)

module _ {K V : Type 0} (less : K → K → Bool) where
  -- the keys of xs are less than all those of ys
  abbrev Under : List (Entry K V) → List (Entry K V) → Type 0
  Under xs ys = All (λ x. All (λ y. less x.key y.key ≡ true) ys) xs

  rising_parts : (xs ys : List (Entry K V)) → Rising less (xs ++ ys) → Rising less xs × Rising less ys × Under xs ys
  rising_parts [] ys h = (tt, h, All-nil (λ x. All (λ y. less x.key y.key ≡ true) ys))
  rising_parts (x ∷ xs) ys h =
      let p = all_parts (λ y. less x.key y.key ≡ true) xs ys h.0 in
      let r = rising_parts xs ys h.1 in
      ((p.0, r.0), r.1, All-cons (λ z. All (λ y. less z.key y.key ≡ true) ys) x xs p.1 r.2)

  pub rising_take : (n : ℕ) (xs : List (Entry K V)) → Rising less xs → Rising less (take n xs)
  rising_take zero xs h = tt
  rising_take (suc n) [] h = tt
  rising_take (suc n) (x ∷ xs) h = (All-take (λ y. less x.key y.key ≡ true) n xs h.0, rising_take n xs h.1)

  rising_join : (xs ys : List (Entry K V)) → Rising less xs → Rising less ys → Under xs ys → Rising less (xs ++ ys)
  rising_join [] ys h k u = k
  rising_join (x ∷ xs) ys h k u = (
    All-append (λ y. less x.key y.key ≡ true) xs ys h.0 (All-head (λ z. All (λ y. less z.key y.key ≡ true) ys) x xs u),
    rising_join xs ys h.1 k (All-tail (λ z. All (λ y. less z.key y.key ≡ true) ys) x xs u),
  )

  module _ (front : List (Entry K V)) (e : Entry K V) (back : List (Entry K V)) where
    pub rising_around : Rising less (front ++ e ∷ back) → Around less front e.key back
    rising_around h =
        let p = rising_parts front (e ∷ back) h in
        record {
          below =
              All-weaker (λ x. All (λ y. less x.key y.key ≡ true) (e ∷ back)) (λ x. less x.key e.key ≡ true) (λ x q. All-head (λ y. less x.key y.key ≡ true) e back q) front p.2;
          above = p.1.0;
        }

    pub rising_without : Rising less (front ++ e ∷ back) → Rising less (front ++ back)
    rising_without h =
        let p = rising_parts front (e ∷ back) h in
        rising_join front back p.0 p.1.1
        (All-weaker (λ x. All (λ y. less x.key y.key ≡ true) (e ∷ back)) (λ x. All (λ y. less x.key y.key ≡ true) back) (λ x q. All-tail (λ y. less x.key y.key ≡ true) e back q) front p.2)

    pub rising_with : Around less front e.key back → Rising less (front ++ back) → Rising less (front ++ e ∷ back)
    rising_with a h =
        let p = rising_parts front back h in
        rising_join front (e ∷ back) p.0 (a.above, p.1)
        (λ i d lt. All-cons (λ y. less (get_or front i d).key y.key ≡ true) e back (a.below i d lt) (p.2 i d lt))

  -- where a search stands: the keys below low are less than k, those from high on greater
  pub record Narrowed (xs : List (Entry K V)) (k : K) (low high : ℕ) : Type 0 where
    pub below : All (λ e. less e.key k ≡ true) (take low xs)
    pub above : All (λ e. less k e.key ≡ true) (drop high xs)

  -- before a search nothing is known
  pub narrowed_all : (xs : List (Entry K V)) (k : K) → Narrowed xs k 0 (length xs)
  narrowed_all xs k =
      record {
        below = All-nil (λ e. less e.key k ≡ true);
        above = All-same (λ e. less k e.key ≡ true) (drop (length xs) xs) [] (drop_all (length xs) xs (omega arith)) (All-nil (λ e. less k e.key ≡ true));
      }

  module _ (total : Total less) (xs : List (Entry K V)) (k : K) where
    -- what stands in the middle
    module _ (m : ℕ) (d : Entry K V) (lt : m < length xs) (up : Rising less xs) where
      here : Around less (take m xs) (get_or xs m d).key (drop (m + 1) xs)
      here = rising_around (take m xs) (get_or xs m d) (drop (m + 1) xs) (subst (Rising less) (split_at xs m d lt) up)

      pub below_more : less (get_or xs m d).key k ≡ true → All (λ e. less e.key k ≡ true) (take (m + 1) xs)
      below_more h =
          All-more (λ e. less e.key k ≡ true) xs m d lt
          (All-weaker (λ e. less e.key (get_or xs m d).key ≡ true) (λ e. less e.key k ≡ true)
          (λ e q. total.transitive e.key (get_or xs m d).key k q h) (take m xs) here.below)
          h

      pub above_more : less k (get_or xs m d).key ≡ true → All (λ e. less k e.key ≡ true) (drop m xs)
      above_more h =
          All-same (λ e. less k e.key ≡ true) (drop m xs) (get_or xs m d ∷ drop (m + 1) xs) (drop_more xs m d lt)
          (All-cons (λ e. less k e.key ≡ true) (get_or xs m d) (drop (m + 1) xs) h
          (All-weaker (λ e. less (get_or xs m d).key e.key ≡ true) (λ e. less k e.key ≡ true)
          (λ e q. total.transitive k (get_or xs m d).key e.key h q) (drop (m + 1) xs) here.above))

      pub found : (get_or xs m d).key ≡ k → Found less xs k m
      found e =
          record {
            front = take m xs;
            value = (get_or xs m d).value;
            back = drop (m + 1) xs;
            is = split_at xs m d lt ∙ ap (λ q. take m xs ++ entry_of q (get_or xs m d).value ∷ drop (m + 1) xs) e;
            place = length-take-le m xs (omega arith);
            around = subst (λ q. Around less (take m xs) q (drop (m + 1) xs)) e here;
          }

    pub missing : (m : ℕ) → m ≤ length xs → Narrowed xs k m m → Missing less xs k m
    missing m le n =
        let a : Around less (take m xs) k (drop m xs) = record { below = n.below; above = n.above } in
        record {
          front = take m xs;
          back = drop m xs;
          is = sym (take-append-drop m xs);
          place = length-take-le m xs le;
          around = a;
          absent = subst (λ zs. Absent zs k) (take-append-drop m xs) (absent_around less total (take m xs) k (drop m xs) a);
        }
