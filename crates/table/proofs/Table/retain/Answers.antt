use Rattle.std.proofs.Common.{sym, subst, arith, length-take, rules}
use Rattle.table.specs.Orders.{Rising}
use Rattle.table.specs.Tables.{items}
use Rattle.table.proofs.Swept.{row_swept, retained_rising}
use Rattle.table.proofs.Table.retain.Goals as goal

pub returns-clause-order : goal.returns-clause-order
returns-clause-order g c =
    let t = c.args.self.now in
    let less = g.K.TotalOrder.less in
    let passes = g.S.Filter.passes in
    let noted = g.S.Filter.noted in
    let swept = row_swept passes noted c.args.test.now c.sweep-self.new.test t.slots.now c.sweep-self.new.slots t.size t.len c.sweep-self.result (search rules) t.filled in
    λ up. subst (Rising less) (sym swept.row) (retained_rising less passes noted c.args.test.now (items t) up)

pub overflow_sub-result : goal.overflow_sub-result
overflow_sub-result g c =
    let t = c.args.self.now in
    let swept = row_swept g.S.Filter.passes g.S.Filter.noted c.args.test.now c.sweep-self.new.test t.slots.now c.sweep-self.new.slots t.size t.len c.sweep-self.result (search rules) t.filled in
    let wide = length-take t.len t.slots.now in
    omega (arith, swept.fewer)

pub returns-clause-count : goal.returns-clause-count
returns-clause-count g c =
    let t = c.args.self.now in
    let swept = row_swept g.S.Filter.passes g.S.Filter.noted c.args.test.now c.sweep-self.new.test t.slots.now c.sweep-self.new.slots t.size t.len c.sweep-self.result (search rules) t.filled in
    let wide = length-take t.len t.slots.now in
    omega (arith, t.fits, t.filled, swept.fewer, swept.stay)
