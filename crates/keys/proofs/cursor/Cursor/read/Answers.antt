use Rattle.std.proofs.Common.{ℕ, subst}
use Rattle.keys.specs.Reading.{Walks}
use Rattle.keys.proofs.Copied.{walk_accepts, walk_refuses}
use Rattle.keys.proofs.cursor.Cursor.read.Goals as goal

pub returns-clause-accepts : goal.returns-clause-accepts
returns-clause-accepts g c =
    let m = g.D.Digest in
    let law = g.met.D.Digest in
    let s = c.args.self.now in
    walk_accepts m.image m.SIZE m.valid law.long law.one s.bytes.now s.place c.next.new.self.place c.next.result
    (subst (λ (n : ℕ). Walks n s.bytes.now s.place c.next.new.self.place c.next.result) c.SIZE.ensures c.next.ensures.walks)

pub returns-clause-refuses : goal.returns-clause-refuses
returns-clause-refuses g c =
    let m = g.D.Digest in
    let law = g.met.D.Digest in
    let s = c.args.self.now in
    walk_refuses m.image m.SIZE m.valid law.long law.one s.bytes.now s.place c.next.new.self.place c.next.result
    (subst (λ (n : ℕ). Walks n s.bytes.now s.place c.next.new.self.place c.next.result) c.SIZE.ensures c.next.ensures.walks)
