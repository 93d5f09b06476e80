use Rattle.std.proofs.Common.{refl, arith}
use Rattle.requests.specs.Floors.{AboveRound}
use Rattle.table.specs.Tables.{items}
use Rattle.book.specs.Floored.{above_round}
use Rattle.book.proofs.Floors.{round_told}
use Rattle.book.proofs.Members.{raised}
use Rattle.book.proofs.Book+Pair+D.raise_round_floor.Goals as goal

pub returns-clause-raised : goal.returns-clause-raised
returns-clause-raised g c =
    let f = c.args.cutoff in
    raised (λ p. AboveRound f p.0 p.1) (λ e. above_round f e.key) (round_told f) (items c.args.self.now.pairs) (items c.retain.new.self) _
    (c.retain.ensures.steady (λ s x y. refl)) (omega (arith, c.retain.ensures.count))
