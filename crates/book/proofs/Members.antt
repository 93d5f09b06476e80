-- What the calls of a table do to the set of its keys. Assumes nothing.
use Rattle.std.proofs.Common.{◌≡◌, ℕ, Bool, true, false, cond, List, [], ◌∷◌, length, is_some, Some, None, Option, Ok, ◌+◌, sym, refl, subst, ◌∙◌, inl, inr, arith}
use Rattle.std.specs.Prelude.{IsTrue, ◌↔◌, ◌⊎◌, ◌≢◌, filter}
use Rattle.std.specs.List.{Contains}
use Rattle.std.proofs.lemmas.Bool.{false≢true}
use Rattle.std.proofs.lemmas.List.Elements.{Contains-append_right, Contains-append_cases, Contains-push_cases}
use Rattle.order.specs.Orders.{Total}
use Rattle.table.specs.declared.Entry.{Entry}
use Rattle.table.specs.Maps.{entry_of, Holds, Lookup, Assigned, Without}
use Rattle.table.specs.Edits.{Inserted, Removed}
use Rattle.book.specs.Sets.{IsAmong, Entered, Went, Raised}

module _ {P : Type 0} (xs : List (Entry P (Unit {0}))) (k : P) where
  pub lookup_decides : (o : Option (Unit {0})) → Lookup xs k o → IsTrue (is_some o) ↔ IsAmong xs k
  lookup_decides (Some v) s = (λ e. (v, s.held), λ h. refl)
  lookup_decides None a = (λ e. absurd (false≢true e), λ h. absurd (a.none h.0 h.1))

  pub without_among : (ys : List (Entry P (Unit {0}))) → Without xs k ys → (q : P) → IsAmong ys q ↔ ((q ≢ k) × IsAmong xs q)
  without_among ys w q =
      (λ h. let r = (w q h.0).0 h.1 in (r.0, (h.0, r.1)), λ h. (h.1.0, (w q h.1.0).1 (h.0, h.1.1)))

  pub assigned_among : {less : P → P → Bool} → Total less → (ys : List (Entry P (Unit {0}))) (v : Unit {0}) → Assigned xs k v ys → (q : P) → IsAmong ys q ↔ ((q ≡ k) ⊎ IsAmong xs q)
  assigned_among t ys v w q = (
    λ h. elim ((w q h.0).0 h.1) [ inl e ↦ inl e.0 | inr e ↦ inr (h.0, e.1) ],
    λ h. elim (t.trichotomy q k) [
      | inl p ↦ elim h [ inl e ↦ absurd (p.1 e) | inr m ↦ (m.0, (w q m.0).1 (inr (p.1, m.1))) ]
      | inr d ↦ elim d [
        | inl p ↦ (v, (w q v).1 (inl (p.1, refl)))
        | inr p ↦ elim h [ inl e ↦ absurd (p.1 e) | inr m ↦ (m.0, (w q m.0).1 (inr (p.1, m.1))) ]
      ]
    ],
  )

module _ {X : Type 0} where
  contains_first : (y : X) (ys : List X) (x : X) → Contains (y ∷ ys) x ↔ ((y ≡ x) ⊎ Contains ys x)
  contains_first y ys x = (
    λ h. elim (Contains-append_cases (y ∷ []) ys x h) [ inl c ↦ elim (Contains-push_cases [] y x c) [ inl e ↦ absurd (omega (arith, e.1)) | inr f ↦ inl f ] | inr c ↦ inr c ],
    λ h. elim h [ inl e ↦ (0, omega arith, e) | inr c ↦ Contains-append_right (y ∷ []) ys x c ],
  )

  step : (p : X → Bool) (y : X) (ys : List X) (x : X) (b : Bool) → p y ≡ b → (Contains (filter p ys) x ↔ (Contains ys x × (p x ≡ true)))
      → Contains (cond b (y ∷ filter p ys) (filter p ys)) x ↔ (((y ≡ x) ⊎ Contains ys x) × (p x ≡ true))
  step p y ys x true e i = (
    λ h. elim ((contains_first y (filter p ys) x).0 h) [
      | inl f ↦ (inl f, subst (λ (z : X). p z ≡ true) f e)
      | inr c ↦ (inr (i.0 c).0, (i.0 c).1)
    ],
    λ h. (contains_first y (filter p ys) x).1 (elim h.0 [ inl f ↦ inl f | inr c ↦ inr (i.1 (c, h.1)) ]),
  )
  step p y ys x false e i = (
    λ h. (inr (i.0 h).0, (i.0 h).1),
    λ h. elim h.0 [ inl f ↦ absurd (false≢true (sym e ∙ subst (λ (z : X). p z ≡ true) (sym f) h.1)) | inr c ↦ i.1 (c, h.1) ],
  )

  -- the elements that pass a test are those of the list that do
  pub contains_filter : (p : X → Bool) (xs : List X) (x : X) → Contains (filter p xs) x ↔ (Contains xs x × (p x ≡ true))
  contains_filter p [] x = (λ h. absurd (omega (arith, h.1)), λ h. absurd (omega (arith, h.0.1)))
  contains_filter p (y ∷ ys) x =
      let i = step p y ys x (p y) refl (contains_filter p ys x) in
      let f = contains_first y ys x in
      (λ h. let r = i.0 h in (f.1 r.0, r.1), λ h. i.1 (f.0 h.0, h.1))

-- those keys stay whose entries pass the test
pub retained_among : {P : Type 0} (test : Entry P (Unit {0}) → Bool) (xs ys : List (Entry P (Unit {0}))) → ys ≡ filter test xs
    → (q : P) → IsAmong ys q ↔ (IsAmong xs q × (test (entry_of q tt) ≡ true))
retained_among test xs ys e q = (
  λ h. let r = (contains_filter test xs (entry_of q h.0)).0 (subst (λ zs. Contains zs (entry_of q h.0)) e h.1) in ((h.0, r.0), r.1),
  λ h. (h.0.0, subst (λ zs. Contains zs (entry_of q h.0.0)) (sym e) ((contains_filter test xs (entry_of q h.0.0)).1 (h.0.1, h.1))),
)

module _ {P : Type 0} {less : P → P → Bool} (t : Total less) (xs ys : List (Entry P (Unit {0}))) (k : P) where
  pub entered : (room : ℕ) (before : Option (Unit {0})) → Inserted less xs k room tt ys (Ok before) → Entered xs ys k (cond (is_some before) 0 1)
  entered room (Some old) r =
      record { set = assigned_among xs k t ys tt r.map; was_in = λ h. refl; was_out = λ f. absurd (f (old, r.was.held)) }
  entered room None r =
      record { set = assigned_among xs k t ys tt r.0.map; was_in = λ h. absurd (r.0.was.none h.0 h.1); was_out = λ f. refl }

  pub went : (before : Option (Unit {0})) → Removed less xs k ys before → Went xs ys k (cond (is_some before) 1 0)
  went (Some old) r =
      record { set = without_among xs k ys r.map; was_in = λ h. refl; was_out = λ f. absurd (f (old, r.was.held)) }
  went None r =
      record {
        set = λ q. (
          λ h. let m = subst (λ zs. IsAmong zs q) r.1 h in (λ e. r.0.none m.0 (subst (λ p. Holds xs p m.0) e m.1), m),
          λ h. subst (λ zs. IsAmong zs q) (sym r.1) h.1,
        );
        was_in = λ h. absurd (r.0.none h.0 h.1);
        was_out = λ f. refl;
      }

-- exactly the pairs above a floor stay
pub raised : {P : Type 0} (Above : P → Type 0) (test : Entry P (Unit {0}) → Bool) → ((p : P) → (test (entry_of p tt) ≡ true) ↔ Above p)
    → (xs ys : List (Entry P (Unit {0}))) (n : ℕ) → ys ≡ filter test xs → n + length ys ≡ length xs → Raised Above xs ys n
raised Above test told xs ys n e c =
    record {
      set = λ q. (
        λ h. let r = (retained_among test xs ys e q).0 h in (r.0, (told q).0 r.1),
        λ h. (retained_among test xs ys e q).1 (h.0, (told q).1 h.1),
      );
      count = c;
    }
