-- A list that a key parts, as a map. Assumes nothing.
use Rattle.std.proofs.Common.{◌≡◌, zero, suc, Bool, true, ◌⊎◌, List, ◌∷◌, ◌++◌, sym, refl, ap, ◌∙◌, subst, inl, inr, arith}
use Rattle.std.specs.List.{Contains}
use Rattle.std.proofs.lemmas.List.Elements.{Contains-append_left, Contains-append_right, Contains-append_cases, All-contains}
use Rattle.std.proofs.lemmas.Bool.{both_ways}
use Rattle.order.specs.Orders.{Total}
use Rattle.order.specs.Totals.{irreflexive}
use Rattle.table.specs.declared.Entry.{Entry}
use Rattle.table.specs.Maps.{entry_of, Holds, Absent, Sole, Assigned, Without}
use Rattle.table.specs.Orders.{Around}

module _ {X : Type 0} where
  has_first : (x : X) (xs : List X) → Contains (x ∷ xs) x
  has_first x xs = (0, omega arith, refl)

  has_behind : (y : X) (xs : List X) (x : X) → Contains xs x → Contains (y ∷ xs) x
  has_behind y xs x (i, lt, at) = (suc i, omega arith, at)

  has_cons_cases : (y : X) (xs : List X) (x : X) → Contains (y ∷ xs) x → (y ≡ x) ⊎ Contains xs x
  has_cons_cases y xs x (zero, lt, at) = inl at
  has_cons_cases y xs x (suc i, lt, at) = inr (i, omega arith, at)

module _ {K V : Type 0} (less : K → K → Bool) (total : Total less) (front : List (Entry K V)) (k : K) (back : List (Entry K V))
    (a : Around less front k back) where
  front_apart : (j : K) (v : V) → Holds front j v → j ≡ k → ⊥
  front_apart j v h e =
      let lt : less j k ≡ true = All-contains (λ x. less x.key k ≡ true) front (entry_of j v) a.below h in
      both_ways (less k k) (irreflexive total k) (ap (λ q. less q k) (sym e) ∙ lt)

  back_apart : (j : K) (v : V) → Holds back j v → j ≡ k → ⊥
  back_apart j v h e =
      let lt : less k j ≡ true = All-contains (λ x. less k x.key ≡ true) back (entry_of j v) a.above h in
      both_ways (less k k) (irreflexive total k) (ap (less k) (sym e) ∙ lt)

  -- what both parts hold is held under another key
  apart : (j : K) (v : V) → Holds (front ++ back) j v → j ≡ k → ⊥
  apart j v h = elim (Contains-append_cases front back (entry_of j v) h) [ inl p ↦ front_apart j v p | inr p ↦ back_apart j v p ]

  pub absent_around : Absent (front ++ back) k
  absent_around = record { none = λ v h. apart k v h refl }

  module _ (u : V) where
    -- with the value u under k between the parts
    abbrev whole : List (Entry K V)
    whole = front ++ entry_of k u ∷ back

    there : Holds whole k u
    there = Contains-append_right front (entry_of k u ∷ back) (entry_of k u) (has_first (entry_of k u) back)

    into : (j : K) (v : V) → Holds (front ++ back) j v → Holds whole j v
    into j v h =
        elim (Contains-append_cases front back (entry_of j v) h) [
          | inl p ↦ Contains-append_left front (entry_of k u ∷ back) (entry_of j v) p
          | inr p ↦ Contains-append_right front (entry_of k u ∷ back) (entry_of j v) (has_behind (entry_of k u) back (entry_of j v) p)
        ]

    out_of : (j : K) (v : V) → Holds whole j v → ((k ≡ j) × (u ≡ v)) ⊎ Holds (front ++ back) j v
    out_of j v h =
        elim (Contains-append_cases front (entry_of k u ∷ back) (entry_of j v) h) [
          | inl p ↦ inr (Contains-append_left front back (entry_of j v) p)
          | inr q ↦ elim (has_cons_cases (entry_of k u) back (entry_of j v) q) [
            | inl e ↦ inl (ap (λ x. x.key) e, ap (λ x. x.value) e)
            | inr p ↦ inr (Contains-append_right front back (entry_of j v) p)
          ]
        ]

    pub sole_around : Sole whole k u
    sole_around = record { held = there; only = λ w h. elim (out_of k w h) [ inl e ↦ sym e.1 | inr p ↦ absurd (apart k w p refl) ] }

    pub without_around : Without whole k (front ++ back)
    without_around j v = (
      λ h. (apart j v h, into j v h),
      λ h. elim (out_of j v h.1) [ inl e ↦ absurd (h.0 (sym e.0)) | inr p ↦ p ],
    )

    pub assigned_new : Assigned (front ++ back) k u whole
    assigned_new j v = (
      λ h. elim (out_of j v h) [ inl e ↦ inl (sym e.0, sym e.1) | inr p ↦ inr (apart j v p, p) ],
      λ h. elim h [
        | inl e ↦ subst (λ q. Holds whole q v) (sym e.0) (subst (λ w. Holds whole k w) (sym e.1) there)
        | inr p ↦ into j v p.1
      ],
    )

  pub assigned_over : (old new : V) → Assigned (whole old) k new (whole new)
  assigned_over old new j v =
      let fresh = assigned_new new j v in
      let left = without_around old j v in (
        λ h. elim (fresh.0 h) [ inl e ↦ inl e | inr p ↦ inr (p.0, into old j v p.1) ],
        λ h. elim h [ inl e ↦ fresh.1 (inl e) | inr p ↦ fresh.1 (inr (p.0, left.1 p)) ],
      )
