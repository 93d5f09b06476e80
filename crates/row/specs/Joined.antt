-- What joining does to a list of targets. Assumes nothing.
use Rattle.std.specs.Prelude.{Bool, false, cond, ◌||◌, List, [], ◌∷◌, ◌++◌}

module _ {T : Type 0} (eq : T → T → Bool) where
  -- whether a target is among those that are there
  abbrev pub among : T → List T → Bool
  among t [] = false
  among t (x ∷ xs) = eq x t || among t xs

  -- one target is added at the end, unless it is there
  abbrev pub added : List T → T → List T
  added xs t = cond (among t xs) xs (xs ++ t ∷ [])

  -- targets are added one by one
  abbrev pub joined : List T → List T → List T
  joined xs [] = xs
  joined xs (t ∷ ts) = joined (added xs t) ts
