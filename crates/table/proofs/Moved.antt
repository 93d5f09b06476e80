-- A row at the front of a list, of which one part is turned or moved by one place. Assumes nothing.
use Rattle.std.proofs.Common.{◌≡◌, ℕ, suc, ◌+◌, ◌-◌, ◌<◌, ◌≤◌, List, [], ◌∷◌, ◌++◌, length, take, drop, set, sym, ap, ◌∙◌, arith, length-take, length-append, length-set}
use Rattle.std.specs.List.{copy_within, insert, remove}
use Rattle.std.proofs.lemmas.List.{take_at, drop_at, take_more_set, take-set-le, take-take, drop-drop, drop-take, drop-append-le, length-drop}
use Rattle.std.proofs.lemmas.List.Edits.{take-paste, drop-paste}
use Rattle.std.proofs.lemmas.Slice.{between_is, take-put_mid, drop-put_mid}
use borrow.Rule.Slice.PartMut.{put_mid}

-- the row is the first len of xs; ys stands where its part from the i-th place on stood
module _ {X : Type 0} (xs : List X) (len i : ℕ) (ys : List X) where
  -- what was written behind the row is turned into the i-th place
  pub turned_in : (x : X) → i ≤ length (take len xs) → len < length xs
      → (let mid = take (len + 1 - i) (drop i (set xs len x)) in ys ≡ drop (length mid - 1) mid ++ take (length mid - 1) mid)
      → take (len + 1) (put_mid i (len + 1 - i) (set xs len x) ys) ≡ insert (take len xs) i x
  turned_in x le lt e =
      let row : List X = take len xs in
      let rest : List X = drop i row in
      let mid : List X = take (len + 1 - i) (drop i (set xs len x)) in
      let wide = length-take len xs in
      let is : mid ≡ rest ++ x ∷ [] =
      between_is (set xs len x) i (len + 1) ∙ ap (drop i) (take_more_set xs len x lt) ∙ drop-append-le i row (x ∷ []) le in
      let n : length mid ≡ length rest + 1 = ap length is ∙ length-append rest (x ∷ []) in
      let last : length rest ≡ length mid - 1 = omega arith in
      let new : ys ≡ x ∷ rest =
      e ∙ ap (λ zs. drop (length mid - 1) zs ++ take (length mid - 1) zs) is
      ∙ ap (λ zs. zs ++ take (length mid - 1) (rest ++ x ∷ [])) (drop_at rest (x ∷ []) (length mid - 1) last)
      ∙ ap (λ zs. x ∷ zs) (take_at rest (x ∷ []) (length mid - 1) last) in
      let long : length ys ≡ suc (length rest) = ap length new in
      let short = length-drop i row in
      take-put_mid i (len + 1 - i) (set xs len x) ys (len + 1) (omega arith) (simp length-set (omega arith))
      ∙ ap (λ zs. zs ++ ys) (take-set-le i xs len x (omega arith) ∙ sym (take-take i len xs (omega arith))) ∙ ap (λ zs. take i row ++ zs) new

-- those behind the i-th of the first len move down by one
module _ {X : Type 0} (xs : List X) (len i : ℕ) where
  module _ (lt : i < length (take len xs)) (le : len ≤ length xs) where
    pub closed_up : take (len - 1) (copy_within xs (i + 1) len i) ≡ remove (take len xs) i
    closed_up =
        let wide = length-take len xs in
        let behind = length-drop (i + 1) xs in
        let n : i + (len - (i + 1)) ≡ len - 1 = omega arith in
        let all : (i + 1) + (len - (i + 1)) ≡ len = omega arith in
        let on : suc i ≡ i + 1 = omega arith in
        let back : drop (suc i) (take len xs) ≡ take (len - (i + 1)) (drop (i + 1) xs) =
        ap (λ m. drop m (take len xs)) on ∙ ap (λ m. drop (i + 1) (take m xs)) (sym all) ∙ drop-take (i + 1) (len - (i + 1)) xs in
        ap (λ m. take m (copy_within xs (i + 1) len i)) (sym n)
        ∙ take-paste xs i (drop (i + 1) xs) (len - (i + 1)) (omega arith) (omega arith)
        ∙ ap (λ zs. zs ++ take (len - (i + 1)) (drop (i + 1) xs)) (sym (take-take i len xs (omega arith)))
        ∙ ap (λ zs. take i (take len xs) ++ zs) (sym back)

    pub beyond_closed : (size : ℕ) → len ≤ size → drop size (copy_within xs (i + 1) len i) ≡ drop size xs
    beyond_closed size in' =
        let wide = length-take len xs in
        let behind = length-drop (i + 1) xs in
        let m : ℕ = size - (i + (len - (i + 1))) in
        let n : i + (len - (i + 1)) + m ≡ size = omega arith in
        ap (λ k. drop k (copy_within xs (i + 1) len i)) (sym n)
        ∙ sym (drop-drop m (i + (len - (i + 1))) (copy_within xs (i + 1) len i))
        ∙ ap (drop m) (drop-paste xs i (drop (i + 1) xs) (len - (i + 1)) (omega arith) (omega arith))
        ∙ drop-drop m (i + (len - (i + 1))) xs ∙ ap (λ k. drop k xs) n

-- behind the part nothing changes
pub beyond_part : {X : Type 0} (xs ys : List X) (i k size : ℕ) → i + k ≤ size → size ≤ length xs → length ys ≡ length (take k (drop i xs))
    → drop size (put_mid i k xs ys) ≡ drop size xs
beyond_part xs ys i k size le in' n =
    let cut = length-take k (drop i xs) in
    let short = length-drop i xs in
    drop-put_mid i k xs ys size le (omega arith) (omega arith)
