-- What a search found, and what an edit in the place that it answers does. Assumes nothing.
use Rattle.std.proofs.Common.{◌≡◌, ℕ, suc, ◌+◌, ◌<◌, Bool, List, ◌∷◌, ◌++◌, length, get_or, take, drop, set, sym, ap, ◌∙◌, subst, arith}
use Rattle.std.specs.List.{insert, remove}
use Rattle.std.proofs.lemmas.List.{get_or_at, set_at, take_at, drop_at, drop-drop, set_split}
use Rattle.order.specs.Orders.{Total}
use Rattle.table.specs.declared.Entry.{Entry}
use Rattle.table.specs.Maps.{entry_of, Sole, Assigned, Without}
use Rattle.table.specs.Orders.{Rising}
use Rattle.table.specs.Searches.{Found, Missing}
use Rattle.table.specs.Edits.{Replaced, Added, Dropped}
use Rattle.table.proofs.Held.{sole_around, without_around, assigned_new, assigned_over}
use Rattle.table.proofs.Ordered.{split_at, rising_around, rising_without, rising_with}

module _ {X : Type 0} where
  drop_behind : (front : List X) (x : X) (back : List X) (i : ℕ) → length front ≡ i → drop (suc i) (front ++ x ∷ back) ≡ back
  drop_behind front x back i e =
      let n : suc i ≡ i + 1 = omega arith in
      ap (λ m. drop m (front ++ x ∷ back)) n ∙ sym (drop-drop 1 i (front ++ x ∷ back)) ∙ ap (drop 1) (drop_at front (x ∷ back) i e)

  removed_is : (front : List X) (x : X) (back : List X) (i : ℕ) → length front ≡ i → remove (front ++ x ∷ back) i ≡ front ++ back
  removed_is front x back i e =
      ap (λ zs. zs ++ drop (suc i) (front ++ x ∷ back)) (take_at front (x ∷ back) i e) ∙ ap (λ zs. front ++ zs) (drop_behind front x back i e)

  inserted_is : (front back : List X) (y : X) (i : ℕ) → length front ≡ i → insert (front ++ back) i y ≡ front ++ y ∷ back
  inserted_is front back y i e =
      ap (λ zs. zs ++ y ∷ drop i (front ++ back)) (take_at front back i e) ∙ ap (λ zs. front ++ y ∷ zs) (drop_at front back i e)

module _ {K V : Type 0} (less : K → K → Bool) (total : Total less) (xs : List (Entry K V)) where
  -- x stands in the i-th place
  module _ (i : ℕ) (x d : Entry K V) (read : x ≡ get_or xs i d) where
    module _ (k : K) (f : Found less xs k i) where
      x_is : x ≡ entry_of k f.value
      x_is = read ∙ ap (λ zs. get_or zs i d) f.is ∙ get_or_at f.front (entry_of k f.value) f.back d i f.place

      xs_is : xs ≡ f.front ++ entry_of k x.value ∷ f.back
      xs_is = f.is ∙ ap (λ v. f.front ++ entry_of k v ∷ f.back) (sym (ap (λ e. e.value) x_is))

      pub found_sole : Sole xs k x.value
      found_sole = subst (λ zs. Sole zs k x.value) (sym xs_is) (sole_around less total f.front k f.back f.around x.value)

      pub found_replaced : (v : V) (ys : List (Entry K V)) → ys ≡ set xs i (entry_of x.key v) → Replaced less xs k x.value v ys
      found_replaced v ys e =
          let after : ys ≡ f.front ++ entry_of k v ∷ f.back =
          e ∙ ap (λ zs. set zs i (entry_of x.key v)) f.is ∙ set_at f.front (entry_of k f.value) f.back (entry_of x.key v) i f.place
          ∙ ap (λ q. f.front ++ entry_of q v ∷ f.back) (ap (λ e. e.key) x_is) in
          record {
            front = f.front;
            back = f.back;
            before = xs_is;
            after = after;
            around = f.around;
            was = found_sole;
            map = subst (λ zs. Assigned zs k v ys) (sym xs_is)
                (subst (Assigned (f.front ++ entry_of k x.value ∷ f.back) k v) (sym after) (assigned_over less total f.front k f.back f.around x.value v));
          }

      pub found_removed : (ys : List (Entry K V)) → ys ≡ remove xs i → Dropped less xs k x.value ys
      found_removed ys e =
          let after : ys ≡ f.front ++ f.back = e ∙ ap (λ zs. remove zs i) f.is ∙ removed_is f.front (entry_of k f.value) f.back i f.place in
          record {
            front = f.front;
            back = f.back;
            before = xs_is;
            after = after;
            around = f.around;
            was = found_sole;
            map = subst (λ zs. Without zs k ys) (sym xs_is)
                (subst (Without (f.front ++ entry_of k x.value ∷ f.back) k) (sym after) (without_around less total f.front k f.back f.around x.value));
          }

    -- the order is kept in any place
    module _ (lt : i < length xs) (up : Rising less xs) where
      split : xs ≡ take i xs ++ x ∷ drop (suc i) xs
      split =
          let n : suc i ≡ i + 1 = omega arith in
          split_at xs i d lt ∙ ap (λ y. take i xs ++ y ∷ drop (i + 1) xs) (sym read) ∙ ap (λ m. take i xs ++ x ∷ drop m xs) (sym n)

      up_split : Rising less (take i xs ++ x ∷ drop (suc i) xs)
      up_split = subst (Rising less) split up

      pub rising_removed : Rising less (remove xs i)
      rising_removed = rising_without less (take i xs) x (drop (suc i) xs) up_split

      pub rising_replaced : (v : V) → Rising less (set xs i (entry_of x.key v))
      rising_replaced v =
          subst (Rising less) (sym (set_split xs i (entry_of x.key v) lt))
          (rising_with less (take i xs) (entry_of x.key v) (drop (suc i) xs) (rising_around less (take i xs) x (drop (suc i) xs) up_split) rising_removed)

  module _ (k : K) (i : ℕ) (m : Missing less xs k i) (v : V) (ys : List (Entry K V)) (e : ys ≡ insert xs i (entry_of k v)) where
    added : ys ≡ m.front ++ entry_of k v ∷ m.back
    added = e ∙ ap (λ zs. insert zs i (entry_of k v)) m.is ∙ inserted_is m.front m.back (entry_of k v) i m.place

    pub missing_added : Added less xs k v ys
    missing_added =
        record {
          front = m.front;
          back = m.back;
          before = m.is;
          after = added;
          around = m.around;
          was = m.absent;
          map = subst (λ zs. Assigned zs k v ys) (sym m.is)
              (subst (Assigned (m.front ++ m.back) k v) (sym added) (assigned_new less total m.front k m.back m.around v));
        }

    pub rising_added : Rising less xs → Rising less ys
    rising_added up =
        subst (Rising less) (sym added) (rising_with less m.front (entry_of k v) m.back m.around (subst (Rising less) m.is up))
