use Rattle.std.proofs.Common.{◌≡◌, ◌+◌, ◌-◌, ◌/◌, ◌<◌, length, subst, arith}
use Rattle.table.specs.Orders.{Rising}
use Rattle.table.specs.Searches.{Found, Missing}
use Rattle.table.proofs.Ordered.{Narrowed, narrowed_all, below_more, above_more, found, missing}
use Rattle.table.proofs.Table.search.Goals as goal

pub loop-low-init : goal.loop-low-init
loop-low-init g c = (omega arith, omega arith, λ up. narrowed_all g.K.TotalOrder.less c.entries-entries.result.now c.args.key.now)

pub loop-low-preserved-in-Less : goal.loop-low-preserved-in-Less
loop-low-preserved-in-Less g c =
    let inv = c.loop-low.invariant in
    let xs = c.entries-entries.result.now in
    let m = c.loop-low.low + (c.loop-low.high - c.loop-low.low) / 2 in
    let lt : m < length xs = omega arith in (
      omega arith,
      omega arith,
      λ up. record {
        below = below_more g.K.TotalOrder.less g.met.K.TotalOrder.total xs c.args.key.now m c.index-entries-middle.result lt up c.in-Less.ensures;
        above = (inv.2 up).above;
      },
    )

pub loop-low-preserved : goal.loop-low-preserved
loop-low-preserved g c =
    let inv = c.loop-low.invariant in
    let xs = c.entries-entries.result.now in
    let m = c.loop-low.low + (c.loop-low.high - c.loop-low.low) / 2 in
    let lt : m < length xs = omega arith in (
      omega arith,
      omega arith,
      λ up. record {
        below = (inv.2 up).below;
        above = above_more g.K.TotalOrder.less g.met.K.TotalOrder.total xs c.args.key.now m c.index-entries-middle.result lt up c.in-Greater.ensures;
      },
    )

pub returns-in-Equal-clause-value : goal.returns-in-Equal-clause-value
returns-in-Equal-clause-value g c =
    let less = g.K.TotalOrder.less in
    let k = c.args.key.now in
    let xs = c.entries-entries.result.now in
    let m = c.loop-low.low + (c.loop-low.high - c.loop-low.low) / 2 in
    let lt : m < length xs = omega (arith, c.loop-low.invariant.1) in
    let at : Rising less xs → Found less xs k m = λ up. found less g.met.K.TotalOrder.total xs k m c.index-entries-middle.result lt up c.in-Equal.ensures in
    subst (λ ys. Rising less ys → Found less ys k m) c.entries-entries.ensures.value at

pub returns-clause-value : goal.returns-clause-value
returns-clause-value g c =
    let less = g.K.TotalOrder.less in
    let k = c.args.key.now in
    let xs = c.entries-entries.result.now in
    let inv = c.loop-low.invariant in
    let e : c.loop-low.high ≡ c.loop-low.low = omega arith in
    let at : Rising less xs → Missing less xs k c.loop-low.low = λ up.
    missing less g.met.K.TotalOrder.total xs k c.loop-low.low (omega arith) (subst (λ h. Narrowed less xs k c.loop-low.low h) e (inv.2 up)) in
    subst (λ ys. Rising less ys → Missing less ys k c.loop-low.low) c.entries-entries.ensures.value at
