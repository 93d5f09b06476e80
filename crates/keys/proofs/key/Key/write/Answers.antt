use Rattle.keys.proofs.Alone.{alone}
use Rattle.keys.proofs.key.Key.write.Goals as goal

pub returns-then-out-needed-clause-one : goal.returns-then-out-needed-clause-one
returns-then-out-needed-clause-one g c =
    let m = g.D.Digest in
    let law = g.met.D.Digest in
    alone m.image m.SIZE m.valid law.long law.one c.args.self.now c.encode_size-needed.ensures.holds

pub returns-clause-one : goal.returns-clause-one
returns-clause-one g c =
    let m = g.D.Digest in
    let law = g.met.D.Digest in
    alone m.image m.SIZE m.valid law.long law.one c.args.self.now c.encode_size-needed.ensures.holds
