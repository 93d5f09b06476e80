-- Keys are in a total order. Assumes nothing.
use Rattle.std.specs.Prelude.{◌≡◌, Bool, true, false}
use Rattle.std.proofs.Common.{rules}
use Rattle.order.specs.Orders.{Total}
use Rattle.order.specs.Totals.{asymmetric, connected, tagged_total}
use Rattle.types.proofs.Ordered.{height_total, round_total}
use Rattle.keys.specs.declared.key.Key.{Key}
use Rattle.keys.specs.Keys.{tag_of, content_less, key_less}

module _ {D : Type 0} {less : D → D → Bool} (t : Total less) where
  asym : (a b : Key D) → content_less less a b ≡ true → content_less less b a ≡ false
  asym = search (asymmetric t, asymmetric height_total, asymmetric round_total, rules)

  conn : (a b : Key D) → tag_of a ≡ tag_of b → content_less less a b ≡ false → content_less less b a ≡ false → a ≡ b
  conn = search (connected t, connected height_total, connected round_total, rules)

  trans : (a b c : Key D) → content_less less a b ≡ true → content_less less b c ≡ true → content_less less a c ≡ true
  trans = search (t.transitive, height_total.transitive, round_total.transitive, rules)

  pub key_total : Total (key_less less)
  key_total = tagged_total tag_of (content_less less) asym conn trans
