-- What is in a row after a join, and where. Assumes nothing.
use Rattle.std.proofs.Common.{◌≡◌, zero, suc, ◌≤◌, Bool, true, false, cond, ◌||◌, List, [], ◌∷◌, ◌++◌, length, take, sym, refl, ap, ◌∙◌, subst, inl, inr, arith, rules, length-append, ℕ, ◌<◌, get_or}
use Rattle.std.specs.Prelude.{IsTrue, ◌↔◌, ◌⊎◌, ◌≢◌}
use Rattle.std.specs.List.{Contains}
use Rattle.std.proofs.lemmas.Bool.{cases_Bool, cases_lt, false≢true}
use Rattle.std.proofs.lemmas.List.{take_at, take-take, take_all, get_or-take, get_or_push}
use Rattle.std.proofs.lemmas.List.Elements.{Contains-append_left, Contains-append_right, Contains-append_cases, Contains-push, Contains-push_cases}
use Rattle.row.specs.Joined.{among, added, joined}
use Rattle.row.proofs.Joining.{longer_one}

module _ {T : Type 0} (eq : T → T → Bool) (identity : (a b : T) → IsTrue (eq a b) ↔ (a ≡ b)) where
  among_is : (t : T) (xs : List T) → among eq t xs ≡ true → Contains xs t
  among_is t [] e = absurd (false≢true e)
  among_is t (x ∷ xs) e =
      elim (cases_Bool (eq x t)) [
        | inl f ↦ (0, omega arith, (identity x t).0 f)
        | inr f ↦ Contains-append_right (x ∷ []) xs t (among_is t xs (search rules))
      ]

  one_more : (xs : List T) (u t : T) (b : Bool) → among eq u xs ≡ b → Contains (cond b xs (xs ++ u ∷ [])) t ↔ (Contains xs t ⊎ (u ≡ t))
  one_more xs u t true e = (λ h. inl h, λ h. elim h [ inl c ↦ c | inr f ↦ subst (Contains xs) f (among_is u xs e) ])
  one_more xs u t false e = (
    λ h. Contains-push_cases xs u t h,
    λ h. elim h [ inl c ↦ Contains-append_left xs (u ∷ []) t c | inr f ↦ subst (Contains (xs ++ u ∷ [])) f (Contains-push xs u) ],
  )

  pub joined_all : (xs ts : List T) (t : T) → Contains (joined eq xs ts) t ↔ (Contains xs t ⊎ Contains ts t)
  joined_all xs [] t = (λ h. inl h, λ h. elim h [ inl c ↦ c | inr c ↦ absurd (omega (arith, c.1)) ])
  joined_all xs (u ∷ us) t =
      let i = joined_all (added eq xs u) us t in
      let m = one_more xs u t (among eq u xs) refl in (
        λ h. elim (i.0 h) [
          | inl c ↦ elim (m.0 c) [ inl d ↦ inl d | inr f ↦ inr (0, omega arith, f) ]
          | inr c ↦ inr (Contains-append_right (u ∷ []) us t c)
        ],
        λ h. i.1 (elim h [
          | inl c ↦ inl (m.1 (inl c))
          | inr c ↦ elim (Contains-append_cases (u ∷ []) us t c) [ inl d ↦ inl (m.1 (elim (Contains-push_cases [] u t d) [ inl e ↦ absurd (omega (arith, e.1)) | inr f ↦ inr f ])) | inr d ↦ inr d ]
        ]),
      )

  front_one : (xs : List T) (u : T) (b : Bool) → take (length xs) (cond b xs (xs ++ u ∷ [])) ≡ xs
  front_one xs u true = take_all (length xs) xs (omega arith)
  front_one xs u false = take_at xs (u ∷ []) (length xs) refl

  -- the targets that were there stay in front, as they were
  pub joined_front : (xs ts : List T) → take (length xs) (joined eq xs ts) ≡ xs
  joined_front xs [] = take_all (length xs) xs (omega arith)
  joined_front xs (u ∷ us) =
      let ys : List T = added eq xs u in
      sym (take-take (length xs) (length ys) (joined eq ys us) (longer_one eq xs u (among eq u xs))) ∙ ap (take (length xs)) (joined_front ys us) ∙ front_one xs u (among eq u xs)

  pub all_of : (new old list : List T) → new ≡ joined eq old list → (t : T) → Contains new t ↔ (Contains old t ⊎ Contains list t)
  all_of new old list e t =
      let i = joined_all old list t in
      (λ h. i.0 (subst (λ zs. Contains zs t) e h), λ h. subst (λ zs. Contains zs t) (sym e) (i.1 h))

  pub front_of : (new old list : List T) → new ≡ joined eq old list → take (length old) new ≡ old
  front_of new old list e = ap (take (length old)) e ∙ joined_front old list

  not_among : (u : T) (xs : List T) (j : ℕ) (d : T) → among eq u xs ≡ false → j < length xs → get_or xs j d ≢ u
  not_among u [] j d a l = λ e. absurd (omega arith)
  not_among u (x ∷ xs) zero d a l = λ e. absurd (false≢true (sym a ∙ ap (λ b. b || among eq u xs) ((identity x u).1 e)))
  not_among u (x ∷ xs) (suc j) d a l = not_among u xs j d (search rules) (omega arith)

  before : (xs : List T) (u : T) (j : ℕ) (d : T) → j < length xs → get_or (xs ++ u ∷ []) j d ≡ get_or xs j d
  before xs u j d l = sym (get_or-take (length xs) (xs ++ u ∷ []) j d l) ∙ ap (λ zs. get_or zs j d) (take_at xs (u ∷ []) (length xs) refl)

  -- what stands in front of a join stands there after it
  stands : (ys us : List T) (i : ℕ) (d : T) → i < length ys → get_or (joined eq ys us) i d ≡ get_or ys i d
  stands ys us i d l = sym (get_or-take (length ys) (joined eq ys us) i d l) ∙ ap (λ zs. get_or zs i d) (joined_front ys us)

  Apart : List T → List T → ℕ → ℕ → T → Type 0
  Apart ys us j k d = length ys ≤ k → k < length (joined eq ys us) → get_or (joined eq ys us) j d ≢ get_or (joined eq ys us) k d

  apart_one : (xs us : List T) (u : T) (j k : ℕ) (d : T) → j < k → length xs ≤ k → (b : Bool) → among eq u xs ≡ b → ((ys : List T) → Apart ys us j k d)
      → k < length (joined eq (cond b xs (xs ++ u ∷ [])) us)
      → get_or (joined eq (cond b xs (xs ++ u ∷ [])) us) j d ≢ get_or (joined eq (cond b xs (xs ++ u ∷ [])) us) k d
  unfolding Apart
  apart_one xs us u j k d l m true a ih n = ih xs m n
  apart_one xs us u j k d l m false a ih n =
      elim (cases_lt (length xs) k) [
        | inl p ↦ ih (xs ++ u ∷ []) (omega (arith, length-append xs (u ∷ []))) n
        | inr p ↦ λ e. not_among u xs j d a (omega arith)
            (sym (before xs u j d (omega arith)) ∙ sym (stands (xs ++ u ∷ []) us j d (omega (arith, length-append xs (u ∷ []))))
            ∙ e ∙ stands (xs ++ u ∷ []) us k d (omega (arith, length-append xs (u ∷ []))) ∙ get_or_push xs u d k (omega arith))
      ]

  -- each target that was added is another than all before it
  pub joined_apart : (xs ts : List T) (j k : ℕ) (d : T) → j < k → length xs ≤ k → k < length (joined eq xs ts) → get_or (joined eq xs ts) j d ≢ get_or (joined eq xs ts) k d
  unfolding Apart
  joined_apart xs [] j k d l m n = λ e. absurd (omega arith)
  joined_apart xs (u ∷ us) j k d l m n = apart_one xs us u j k d l m (among eq u xs) refl (λ ys p q. joined_apart ys us j k d l p q) n

  pub apart_of : (new old list : List T) → new ≡ joined eq old list → (j k : ℕ) (d : T) → j < k → length old ≤ k → k < length new → get_or new j d ≢ get_or new k d
  apart_of new old list e j k d l m n =
      λ f. joined_apart old list j k d l m (subst (λ zs. k < length zs) e n) (ap (λ zs. get_or zs j d) (sym e) ∙ f ∙ ap (λ zs. get_or zs k d) e)
