-- Entries in the order of their keys. Assumes nothing.
use Rattle.std.specs.Prelude.{◌≡◌, Bool, true, List, [], ◌∷◌}
use Rattle.std.specs.Coded.{×_prop, Π_prop, Unit-prop, Coded-set, coded_bool}
use Rattle.std.specs.List.{All}
use Rattle.table.specs.declared.Entry.{Entry}

module _ {K V : Type 0} (less : K → K → Bool) where
  -- each key is less than all keys behind it, so that each stands once
  abbrev pub Rising : List (Entry K V) → Type 0
  Rising [] = Unit {0}
  Rising (x ∷ xs) = All (λ y. less x.key y.key ≡ true) xs × Rising xs

  -- it has one proof at most, as the fact in a ghost field must
  pub Rising-prop : (xs : List (Entry K V)) → IsProp (Rising xs)
  Rising-prop [] = Unit-prop
  Rising-prop (x ∷ xs) = ×_prop (Π_prop (λ k. Π_prop (λ d. Π_prop (λ lt. Coded-set coded_bool _ _)))) (Rising-prop xs)

  -- the keys in front are less than k, and k is less than the keys behind
  pub record Around (front : List (Entry K V)) (k : K) (back : List (Entry K V)) : Type 0 where
    pub below : All (λ e. less e.key k ≡ true) front
    pub above : All (λ e. less k e.key ≡ true) back
