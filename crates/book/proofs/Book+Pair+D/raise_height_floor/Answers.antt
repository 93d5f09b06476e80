use Rattle.std.proofs.Common.{refl, arith}
use Rattle.requests.specs.Floors.{AboveHeight}
use Rattle.table.specs.Tables.{items}
use Rattle.book.specs.Floored.{above_height}
use Rattle.book.proofs.Floors.{height_told}
use Rattle.book.proofs.Members.{raised}
use Rattle.book.proofs.Book+Pair+D.raise_height_floor.Goals as goal

pub returns-clause-raised : goal.returns-clause-raised
returns-clause-raised g c =
    let f = c.args.floor in
    raised (λ p. AboveHeight f p.0 p.1) (λ e. above_height f e.key) (height_told f) (items c.args.self.now.pairs) (items c.retain.new.self) _
    (c.retain.ensures.steady (λ s x y. refl)) (omega (arith, c.retain.ensures.count))
