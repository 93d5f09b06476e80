-- Heights and rounds are in a total order. Assumes nothing.
use Rattle.std.proofs.Common.{ℕ, ltb, ap}
use Rattle.order.specs.Orders.{Total}
use Rattle.order.specs.Totals.{number_total, pair_total, total_by}
use Rattle.types.specs.declared.height.Height.{Height}
use Rattle.types.specs.declared.round.Round.{Round}
use Rattle.types.specs.Rounds.{round_less}

pub height_total : Total (λ (a b : Height). ltb a.0 b.0)
height_total = total_by (λ (a : Height). a.0) (λ a b e. ap (λ (n : ℕ). of n) e) number_total
  where
    of : ℕ → Height
    of n = record { 0 = n }

-- a round is its two numbers
abbrev numbers : Round → ℕ × ℕ
numbers r = (r.epoch.0, r.view.0)

abbrev round_of : ℕ × ℕ → Round
round_of p = record { epoch = record { 0 = p.0 }; view = record { 0 = p.1 } }

pub round_total : Total round_less
round_total = total_by numbers (λ a b e. ap round_of e) (pair_total number_total number_total)
