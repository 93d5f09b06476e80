use Rattle.std.proofs.Common.{◌-◌, ◌≤◌, length}
use Rattle.table.specs.Orders.{Rising}
use Rattle.table.proofs.Ordered.{Narrowed}
use Rattle.table.proofs.Table.search.Given as goal

abbrev pub invariant-loop-low : goal.invariant-loop-low
invariant-loop-low g l =
    (l.low ≤ l.high) × (l.high ≤ length l.entries)
    × (Rising g.K.TotalOrder.less l.entries → Narrowed g.K.TotalOrder.less l.entries l.key l.low l.high)

abbrev pub decreases-loop-low : goal.decreases-loop-low
decreases-loop-low g l = l.high - l.low
