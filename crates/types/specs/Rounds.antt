-- The order of rounds, and which rounds a cutoff covers. Assumes nothing.
use Rattle.std.specs.Prelude.{◌≡◌, ◌≤◌, Bool, true, ◌⊎◌, nat_lt}
use Rattle.order.specs.Orders.{pair_less}
use Rattle.types.specs.declared.round.Round.{Round}
use Rattle.types.specs.declared.cutoff.Cutoff.{Cutoff}
use Rattle.types.specs.declared.cutoff.Cutoff.TheVariants as cutoff

-- by epoch, then by view
abbrev pub round_less : Round → Round → Bool
round_less a b = pair_less nat_lt nat_lt (a.epoch.0, a.view.0) (b.epoch.0, b.view.0)

-- a round covers those up to and including itself, an epoch those whose epoch is at most it
abbrev pub Covers : Cutoff → Round → Type 0
Covers (cutoff.Round last) r = (round_less r last ≡ true) ⊎ (r ≡ last)
Covers (cutoff.Epoch last) r = r.epoch.0 ≤ last.0
