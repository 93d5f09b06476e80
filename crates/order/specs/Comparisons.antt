-- What the answer of a comparison says. Assumes nothing.
use Rattle.std.specs.Prelude.{◌≡◌, Bool, true}
use Rattle.std.specs.declared.cmp.Ordering.TheVariants.{Less, Equal, Greater}
use Rattle.std.specs.declared.cmp.Ordering.{Ordering}

abbrev pub Compares : {X : Type 0} → (X → X → Bool) → X → X → Ordering → Type 0
Compares less a b Less = less a b ≡ true
Compares less a b Equal = a ≡ b
Compares less a b Greater = less b a ≡ true
