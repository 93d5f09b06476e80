-- A table of numbers as a set, and what its calls do to the set. Assumes nothing.
use Rattle.std.proofs.Common.{◌≡◌, ℕ, zero, suc, Bool, true, false, cond, not, ◌&&◌, ◌||◌, eqb, nat_lt, List, [], ◌∷◌, length, is_some, Some, None, Ok, Option, sym, refl, ap, ◌∙◌, subst, inl, inr, ⊎_elim, arith}
use Rattle.std.proofs.lemmas.Bool.{cases_Bool, cases_eq, eqb-true, eq-eqb, ne_eqb, or_cases, or_left, or_right, both_ways, cond-true, lt-ltb, and_parts, and_from}
use Rattle.table.specs.declared.Entry.{Entry}
use Rattle.table.specs.Edits.{Inserted, Removed}
use Rattle.table.specs.Maps.{entry_of, Holds, Absent, Sole, Lookup, Assigned, Without}
use Rattle.rosters.specs.Members.{among, absent}
use Rattle.rosters.specs.Sets.{added, removed, Leaves, Enters}

-- two tests that hold of the same are one
same_test : (a b : Bool) → (a ≡ true → b ≡ true) → (b ≡ true → a ≡ true) → a ≡ b
same_test a b f g =
    ⊎_elim (λ h. h ∙ sym (f h))
    (λ h. ⊎_elim (λ k. absurd (both_ways a h (g k))) (λ k. h ∙ sym k) (cases_Bool b))
    (cases_Bool a)

pub holds_among : (es : List (Entry ℕ (Unit {0}))) (n : ℕ) → Holds es n tt → among es n ≡ true
holds_among [] n (k, lt, at) = absurd (omega arith)
holds_among (e ∷ es) n (zero, lt, at) = or_left (eqb n e.key) (among es n) (eq-eqb n e.key (sym (ap (λ (x : Entry ℕ (Unit {0})). x.key) at)))
holds_among (e ∷ es) n (suc k, lt, at) = or_right (eqb n e.key) (among es n) (holds_among es n (k, omega arith, at))

pub among_holds : (es : List (Entry ℕ (Unit {0}))) (n : ℕ) → among es n ≡ true → Holds es n tt
among_holds [] n h = absurd (both_ways false refl h)
among_holds (e ∷ es) n h =
    ⊎_elim
    (λ q. (0, omega arith, ap (λ k. entry_of k tt) (sym (eqb-true n e.key q))))
    (λ q. let r = among_holds es n q in (suc r.0, omega (arith, r.1), r.2))
    (or_cases (eqb n e.key) (among es n) h)

module _ (xs ys : List (Entry ℕ (Unit {0}))) (k : ℕ) where
  absent_among : Absent xs k → among xs k ≡ false
  absent_among a = ⊎_elim (λ h. absurd (a.none tt (among_holds xs k h))) (λ h. h) (cases_Bool (among xs k))

  sole_among : Sole xs k tt → among xs k ≡ true
  sole_among s = holds_among xs k s.held

  pub lookup_among : (o : Option (Unit {0})) → Lookup xs k o → is_some o ≡ among xs k
  lookup_among None a = sym (absent_among a)
  lookup_among (Some v) s = sym (sole_among s)

  without_among : Without xs k ys → (n : ℕ) → among ys n ≡ removed (among xs) k n
  without_among w n =
      same_test (among ys n) (not (eqb n k) && among xs n)
      (λ h. let p = (w n tt).0 (among_holds ys n h) in and_from (not (eqb n k)) (among xs n) (ap not (ne_eqb n k p.0)) (holds_among xs n p.1))
      (λ h.
      let p = and_parts (not (eqb n k)) (among xs n) h in
      holds_among ys n ((w n tt).1 ((λ q. both_ways (not (eqb n k)) (ap not (eq-eqb n k q)) p.0), among_holds xs n p.1)))

  assigned_among : Assigned xs k tt ys → (n : ℕ) → among ys n ≡ added (among xs) k n
  assigned_among w n =
      same_test (among ys n) (eqb n k || among xs n)
      (λ h. ⊎_elim (λ p. or_left (eqb n k) (among xs n) (eq-eqb n k p.0)) (λ p. or_right (eqb n k) (among xs n) (holds_among xs n p.1)) ((w n tt).0 (among_holds ys n h)))
      (λ h.
      ⊎_elim
      (λ q. holds_among ys n ((w n tt).1 (inl (q, refl))))
      (λ q. ⊎_elim (λ e. absurd (q e)) (λ m. holds_among ys n ((w n tt).1 (inr (q, among_holds xs n m)))) (⊎_elim (λ e. inl (eqb-true n k e)) (λ m. inr m) (or_cases (eqb n k) (among xs n) h)))
      (cases_eq n k))

  -- a member is removed
  pub leaves_member : Sole xs k tt → Without xs k ys → Leaves (absent xs) (absent ys) k 1
  leaves_member s w =
      record {
        set = λ n. ap not (without_among w n) ∙ elim (eqb n k) as (λ e. not (not e && among xs n) ≡ (e || not (among xs n))) [ true ↦ refl | false ↦ refl ];
        count = ap (λ a. cond (not a) 0 1) (sym (sole_among s));
      }

  -- a new member is added
  pub enters_member : (place : Bool) → place ≡ true → Absent xs k → Assigned xs k tt ys → Enters place (absent xs) (absent ys) k 1
  enters_member place p a w =
      record {
        set = λ n.
            ap not (assigned_among w n)
            ∙ elim (eqb n k) as (λ e. not (e || among xs n) ≡ (not e && not (among xs n))) [ true ↦ refl | false ↦ refl ]
            ∙ sym (cond-true place (removed (absent xs) k n) (absent xs n) p);
        count = ap (λ b. cond (not b) 1 0) (sym (absent_among a)) ∙ ap (λ t. cond (t && not (among xs k)) 1 0) (sym p);
      }

module _ (xs : List (Entry ℕ (Unit {0}))) (k : ℕ) where
  -- nothing changes: who is to leave is no member
  pub leaves_nobody : Absent xs k → Leaves (absent xs) (absent xs) k 0
  leaves_nobody a =
      let out = absent_among xs xs k a in
      record {
        set = λ n. ⊎_elim
            (λ e. ap (λ m. not (among xs m)) e ∙ ap not out ∙ sym (or_left (eqb n k) (absent xs n) (eq-eqb n k e)))
            (λ e. ap (λ b. b || absent xs n) (sym (ne_eqb n k e)))
            (cases_eq n k);
        count = ap (λ b. cond (not b) 0 1) (sym out);
      }

  -- a member enters again
  pub enters_again : (ys : List (Entry ℕ (Unit {0}))) (place : Bool) → Sole xs k tt → Assigned xs k tt ys → Enters place (absent xs) (absent ys) k 0
  enters_again ys place s w =
      let in' = sole_among xs ys k s in
      let same : (n : ℕ) → among ys n ≡ among xs n = λ n. assigned_among xs ys k w n ∙ ⊎_elim
      (λ e. or_left (eqb n k) (among xs n) (eq-eqb n k e) ∙ sym (ap (among xs) e ∙ in'))
      (λ e. ap (λ b. b || among xs n) (ne_eqb n k e))
      (cases_eq n k) in
      let without : (n : ℕ) → removed (absent xs) k n ≡ absent xs n = λ n. ⊎_elim
      (λ e. ap (λ b. not b && absent xs n) (eq-eqb n k e) ∙ sym (ap (absent xs) e ∙ ap not in'))
      (λ e. ap (λ b. not b && absent xs n) (ne_eqb n k e))
      (cases_eq n k) in
      record {
        set = λ n. ap not (same n) ∙ elim place as (λ t. absent xs n ≡ cond t (removed (absent xs) k n) (absent xs n)) [ true ↦ sym (without n) | false ↦ refl ];
        count = elim place as (λ t. 0 ≡ cond (t && absent xs k) 1 0) [ true ↦ ap (λ b. cond (not b) 1 0) (sym in') | false ↦ refl ];
      }

-- a remove, by the value that stood there
pub leaves_removed : (xs ys : List (Entry ℕ (Unit {0}))) (k : ℕ) (old : Option (Unit {0})) → Removed nat_lt xs k ys old
    → Leaves (absent xs) (absent ys) k (cond (is_some old) 1 0)
leaves_removed xs ys k None d = subst (λ zs. Leaves (absent xs) (absent zs) k 0) (sym d.1) (leaves_nobody xs k d.0)
leaves_removed xs ys k (Some v) d = leaves_member xs ys k d.was d.map

-- an insert that was not refused, by what stood there before
pub enters_inserted : (xs ys : List (Entry ℕ (Unit {0}))) (k room : ℕ) (old : Option (Unit {0})) → Inserted nat_lt xs k room tt ys (Ok old)
    → Enters (nat_lt (length xs) room) (absent xs) (absent ys) k (cond (not (is_some old)) 1 0)
enters_inserted xs ys k room None d = enters_member xs ys k (nat_lt (length xs) room) (lt-ltb (length xs) room d.1) d.0.was d.0.map
enters_inserted xs ys k room (Some v) d = enters_again xs k ys (nat_lt (length xs) room) d.was d.map
