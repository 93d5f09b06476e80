use Rattle.std.proofs.Common.{rules, ◌≡◌, ◌<◌, min, length, sym, ◌∙◌, arith}
use Rattle.memory.specs.Rings.{placed}
use Rattle.memory.proofs.Sweeping.{underway_kept, underway_dropped, underway_last}
use Rattle.memory.proofs.ring.sweep.Goals as goal
use Rattle.memory.proofs.ring.sweep.Goals.{then-keep, else-keep}

pub loop-i-preserved : goal.loop-i-preserved
loop-i-preserved g c =
    let low = c.loop-i.invariant.ring.behind in
    let room : c.min-room.result ≡ min c.args.size (length c.loop-i.slots) = omega (arith, c.loop-i.auto.slots) in
    let from : c.place.result ≡ placed c.min-room.result (min c.args.head c.min-room.result) c.loop-i.i = search rules in
    let here : c.place.result < c.min-room.result = omega (arith, c.place.ensures.bound) in
    elim c.if-keep.branch [
      | then-keep w ↦
          let there : w.place-then-keep.result < c.min-room.result = omega (arith, w.place-then-keep.ensures.bound) in
          let to : w.place-then-keep.result ≡ placed c.min-room.result (min c.args.head c.min-room.result) c.loop-i.count = search rules in
          rw (w.slots-is, w.count-is) (
          underway_kept _ _ _ _ _ _ c.loop-i.invariant _ _ _ _ room (omega arith) from here c.index-slots-place.is c.keep.ensures.after
          (sym c.keep.ensures.value ∙ w.if-keep.true) _ to there
          )
      | else-keep w ↦
          rw (w.slots-is, w.count-is) (
          underway_dropped _ _ _ _ _ _ c.loop-i.invariant _ _ _ _ room (omega arith) from here c.index-slots-place.is c.keep.ensures.after
          (sym c.keep.ensures.value ∙ w.if-keep.false)
          )
    ]

pub returns : goal.returns
returns g c = underway_last _ _ _ _ _ _ c.loop-i.invariant _ (omega arith)
