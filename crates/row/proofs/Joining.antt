-- How far a join has come, and what its steps add. Assumes nothing.
use Rattle.std.proofs.Common.{◌≡◌, ℕ, zero, suc, ◌+◌, ◌<◌, ◌≤◌, Bool, true, false, cond, List, [], ◌∷◌, ◌++◌, length, take, drop, set, get_or, nat_le, sym, refl, ap, ◌∙◌, arith, rules, length-append, length-set, length-take}
use Rattle.std.proofs.lemmas.Bool.{lt-leb}
use Rattle.std.proofs.lemmas.List.{take_more, take_more_set, take-set-le, take-append-drop}
use Rattle.row.specs.Joined.{among, added, joined}

-- the first i of a list have been joined to the first n of the old slots; they are the first end of the slots now
pub record Joining {T : Type 0} (eq : T → T → Bool) (old list now : List T) (n i end : ℕ) : Type 0 where
  pub joined : take end now ≡ joined eq (take n old) (take i list)
  pub room : end ≤ length now
  pub grown : n ≤ end
  pub front : take n now ≡ take n old
  pub long : length now ≡ length old

module _ {T : Type 0} (eq : T → T → Bool) where
  pub joined-append : (xs ts us : List T) → joined eq xs (ts ++ us) ≡ joined eq (joined eq xs ts) us
  joined-append xs [] us = refl
  joined-append xs (t ∷ ts) us = joined-append (added eq xs t) ts us

  pub longer_one : (xs : List T) (t : T) (b : Bool) → length xs ≤ length (cond b xs (xs ++ t ∷ []))
  longer_one xs t true = omega arith
  longer_one xs t false = omega (arith, length-append xs (t ∷ []))

  pub joined_longer : (xs ts : List T) → length xs ≤ length (joined eq xs ts)
  joined_longer xs [] = omega arith
  joined_longer xs (t ∷ ts) = omega (arith, joined_longer (added eq xs t) ts, longer_one xs t (among eq t xs))

  -- a target that is there adds nothing, and a new one is added at the end
  joined_there : (xs ts : List T) (t : T) → among eq t (joined eq xs ts) ≡ true → joined eq xs (ts ++ t ∷ []) ≡ joined eq xs ts
  joined_there xs ts t e = joined-append xs ts (t ∷ []) ∙ ap (λ b. cond b (joined eq xs ts) (joined eq xs ts ++ t ∷ [])) e

  joined_new : (xs ts : List T) (t : T) → among eq t (joined eq xs ts) ≡ false → joined eq xs (ts ++ t ∷ []) ≡ joined eq xs ts ++ t ∷ []
  joined_new xs ts t e = joined-append xs ts (t ∷ []) ∙ ap (λ b. cond b (joined eq xs ts) (joined eq xs ts ++ t ∷ [])) e

  among-push : (t : T) (xs : List T) (x : T) → among eq t xs ≡ false → eq x t ≡ false → among eq t (xs ++ x ∷ []) ≡ false
  among-push t [] x e f = search rules
  among-push t (y ∷ ys) x e f = search (among-push t ys x, rules)

  -- the targets before the k-th are others, and so is the k-th
  pub among_more : (t : T) (xs : List T) (k : ℕ) (x : T) → k < length xs → x ≡ get_or xs k x → among eq t (take k xs) ≡ false → eq x t ≡ false → among eq t (take (k + 1) xs) ≡ false
  among_more t xs k x l e a f =
      ap (among eq t) (take_more xs k x l ∙ ap (λ z. take k xs ++ z ∷ []) (sym e)) ∙ among-push t (take k xs) x a f

  pub among_at : (t : T) (xs : List T) (k : ℕ) (x : T) → k < length xs → x ≡ get_or xs k x → eq x t ≡ true → among eq t xs ≡ true
  among_at t [] k x l e f = absurd (omega arith)
  among_at t (y ∷ ys) zero x l e f = search rules
  among_at t (y ∷ ys) (suc k) x l e f = search (among_at t ys k x (omega arith) e f, rules)

  module _ (old list now : List T) (n i end : ℕ) (j : Joining eq old list now n i end) (t : T) (l : i < length list) (e : t ≡ get_or list i t) where
    next : take (i + 1) list ≡ take i list ++ t ∷ []
    next = take_more list i t l ∙ ap (λ z. take i list ++ z ∷ []) (sym e)

    pub there : among eq t (take end now) ≡ true → Joining eq old list now n (i + 1) end
    there a =
        record {
          joined = j.joined ∙ sym (joined_there (take n old) (take i list) t (ap (among eq t) (sym j.joined) ∙ a)) ∙ ap (joined eq (take n old)) (sym next);
          room = j.room;
          grown = j.grown;
          front = j.front;
          long = j.long;
        }

    with_new : among eq t (take end now) ≡ false → joined eq (take n old) (take (i + 1) list) ≡ take end now ++ t ∷ []
    with_new a =
        ap (joined eq (take n old)) next ∙ joined_new (take n old) (take i list) t (ap (among eq t) (sym j.joined) ∙ a) ∙ ap (λ zs. zs ++ t ∷ []) (sym j.joined)

    pub more : among eq t (take end now) ≡ false → end < length now → Joining eq old list (set now end t) n (i + 1) (end + 1)
    more a r =
        record {
          joined = take_more_set now end t r ∙ sym (with_new a);
          room = omega (arith, length-set now end t);
          grown = omega (arith, j.grown);
          front = take-set-le n now end t j.grown ∙ j.front;
          long = length-set now end t ∙ j.long;
        }

    pub too_many : among eq t (take end now) ≡ false → end ≡ length now → nat_le (length (joined eq (take n old) list)) (length old) ≡ false
    too_many a f =
        let all : joined eq (take n old) list ≡ joined eq (take end now ++ t ∷ []) (drop (i + 1) list) =
        ap (joined eq (take n old)) (sym (take-append-drop (i + 1) list)) ∙ joined-append (take n old) (take (i + 1) list) (drop (i + 1) list) ∙ ap (λ zs. joined eq zs (drop (i + 1) list)) (with_new a) in
        lt-leb _ _ (omega (arith, ap length all, joined_longer (take end now ++ t ∷ []) (drop (i + 1) list), length-append (take end now) (t ∷ []), length-take end now, j.long, f))
