-- A row of entries at the front of a list, after an edit in the place that a search answered. Assumes nothing.
use Rattle.std.proofs.Common.{◌≡◌, ℕ, ◌+◌, ◌-◌, ◌<◌, ◌≤◌, Bool, List, ◌++◌, length, get_or, take, drop, set, sym, ap, ◌∙◌, subst, arith, length-take}
use Rattle.std.proofs.Math.Seq.{take-set-lt}
use Rattle.std.proofs.lemmas.List.{get_or-take}
use Rattle.order.specs.Orders.{Total}
use Rattle.table.specs.declared.Entry.{Entry}
use Rattle.table.specs.Edits.{Replaced, Added, Dropped}
use Rattle.table.specs.Maps.{entry_of}
use Rattle.table.specs.Orders.{Rising}
use Rattle.table.specs.Searches.{Found, Missing}
use Rattle.table.proofs.Edited.{found_replaced, rising_replaced, found_removed, rising_removed, missing_added, rising_added}
use Rattle.std.specs.List.{copy_within}
use Rattle.table.proofs.Moved.{turned_in, closed_up}
use borrow.Rule.Slice.PartMut.{put_mid}

module _ {K V : Type 0} (less : K → K → Bool) (total : Total less) (slots : List (Entry K V)) (len : ℕ) (up : Rising less (take len slots))
    (k : K) (i : ℕ) where
  abbrev row : List (Entry K V)
  row = take len slots

  module _ (f : Found less row k i) (within : i < length row) (d : Entry K V) where
    read : get_or slots i d ≡ get_or row i d
    read = let n = length-take len slots in sym (get_or-take len slots i d (omega arith))

    -- a value is written over the one that stood there
    pub row_replaced : (v : V) → (let ys = take len (set slots i (entry_of (get_or slots i d).key v)) in Rising less ys × Replaced less row k (get_or slots i d).value v ys)
    row_replaced v =
        let x : Entry K V = get_or slots i d in
        let n = length-take len slots in
        let e = take-set-lt len slots i (entry_of x.key v) (omega arith) in
        (subst (Rising less) (sym e) (rising_replaced less total row i x d read within up v), found_replaced less total row i x d read k f v _ e)

    -- the entry is taken out of the row
    pub row_removed : (ys : List (Entry K V)) → len ≤ length slots → ys ≡ copy_within slots (i + 1) len i
        → (let zs = take (len - 1) ys in Rising less zs × Dropped less row k (get_or slots i d).value zs)
    row_removed ys le closed =
        let x : Entry K V = get_or slots i d in
        let e = ap (take (len - 1)) closed ∙ closed_up slots len i within le in
        (subst (Rising less) (sym e) (rising_removed less total row i x d read within up), found_removed less total row i x d read k f _ e)

  -- an entry that was written behind the row is turned into it
  pub row_added : Missing less row k i → i ≤ length row → len < length slots → (v : V) (ys : List (Entry K V))
      → (let mid = take (len + 1 - i) (drop i (set slots len (entry_of k v))) in ys ≡ drop (length mid - 1) mid ++ take (length mid - 1) mid)
      → (let zs = take (len + 1) (put_mid i (len + 1 - i) (set slots len (entry_of k v)) ys) in Rising less zs × Added less row k v zs)
  row_added m within lt v ys turned =
      let e = turned_in slots len i ys (entry_of k v) within lt turned in
      (rising_added less total row k i m v _ e up, missing_added less total row k i m v _ e)
