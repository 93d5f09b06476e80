use Rattle.std.proofs.Common.{◌+◌, ◌-◌, ◌<◌, length, set, refl, ◌∙◌, arith, length-take, length-set, rules}
use Rattle.std.proofs.lemmas.List.{drop-set-lt}
use Rattle.table.specs.Maps.{entry_of}
use Rattle.table.specs.Tables.{items, capacity}
use Rattle.table.proofs.Moved.{beyond_part}
use Rattle.table.proofs.Rows.{row_replaced, row_added}
use Rattle.table.proofs.Table.insert.Goals as goal

pub returns-in-Ok-clause-order : goal.returns-in-Ok-clause-order
returns-in-Ok-clause-order g c =
    let t = c.args.self.now in
    let e = c.in-Ok.ensures in
    λ up. (row_replaced g.K.TotalOrder.less g.met.K.TotalOrder.total t.slots.now t.len up c.args.key c.in-Ok.i (e.value up) e.within c.index-slots-i.result c.replace.new.dest).0

pub returns-in-Ok-clause-value : goal.returns-in-Ok-clause-value
returns-in-Ok-clause-value g c =
    let t = c.args.self.now in
    let e = c.in-Ok.ensures in
    λ up.
    let done = row_replaced g.K.TotalOrder.less g.met.K.TotalOrder.total t.slots.now t.len up c.args.key c.in-Ok.i (e.value up) e.within c.index-slots-i.result c.args.value in
    search rules

pub returns-else-self-clause-kept : goal.returns-else-self-clause-kept
returns-else-self-clause-kept g c =
    let t = c.args.self.now in
    let slots = t.slots.now in
    let e = entry_of c.args.key c.args.value in
    let wide = length-take t.len slots in
    let free : t.len < t.size = search rules in
    record {
      room = refl;
      rest =
          beyond_part (set slots t.len e) c.rotate_right.new.self c.in-Err.i (t.len + 1 - c.in-Err.i) t.size (omega (arith, c.in-Err.ensures.within)) (simp length-set t.fits) c.rotate_right.ensures.len
          ∙ drop-set-lt t.size slots t.len e free;
    }

pub returns-else-self-clause-order : goal.returns-else-self-clause-order
returns-else-self-clause-order g c =
    let t = c.args.self.now in
    let e = c.in-Err.ensures in
    λ up. (row_added g.K.TotalOrder.less g.met.K.TotalOrder.total t.slots.now t.len up c.args.key c.in-Err.i (e.value up) e.within (search rules) c.args.value c.rotate_right.new.self (search rules)).0

pub returns-else-self-clause-value : goal.returns-else-self-clause-value
returns-else-self-clause-value g c =
    let t = c.args.self.now in
    let e = c.in-Err.ensures in
    let free : length (items t) < capacity t = search rules in
    λ up. ((row_added g.K.TotalOrder.less g.met.K.TotalOrder.total t.slots.now t.len up c.args.key c.in-Err.i (e.value up) e.within (search rules) c.args.value c.rotate_right.new.self (search rules)).1, free)
