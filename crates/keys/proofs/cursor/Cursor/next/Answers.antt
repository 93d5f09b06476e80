use Rattle.std.proofs.Common.{List, ℕ, length, ap, arith, Bor}
use Rattle.keys.specs.declared.cursor.Cursor.{Cursor}
use Rattle.keys.proofs.Shown.{block}
use Rattle.keys.proofs.cursor.Cursor.next.Goals as goal

pub returns-in-0-clause-walks : goal.returns-in-0-clause-walks
returns-in-0-clause-walks c =
    let t = c.in_ok-tag.ensures.tag in
    let b = ap (λ (x : Bor (List ℕ)). x.now) c.in_ok-tag.ensures.bytes in
    let f = c.in_ok-part-in-0.ensures.digest in
    block c.args.size c.args.self.now.bytes.now c.args.self.now.place c.take_tag.new.self.place _ t.1 t.0 t.2 c.in_ok-part-in-0.part _ _
    (ap (λ (x : Cursor). x.place) c.drop-guard-in-0.ensures) c.in-0.is (cc (f.0, b)) f.1 (omega (arith, c.take_digest.new.self.within, ap length (ap (λ (x : Bor (List ℕ)). x.now) c.in_ok-part-in-0.ensures.bytes), ap length b, f.1))
