use Rattle.std.proofs.Common.{◌≡◌, cond, is_some, subst, sym, rules}
use Rattle.table.specs.Tables.{items}
use Rattle.book.specs.Sets.{Went}
use Rattle.book.proofs.Members.{went}
use Rattle.book.proofs.Book.remove.Goals as goal

pub returns-clause-went : goal.returns-clause-went
returns-clause-went g c =
    let before = items c.args.self.now.pairs in
    let after = items c.remove.new.self in
    let told : c.from.result ≡ cond (is_some c.remove.result) 1 0 = search rules in
    subst (Went before after c.args.pair.now) (sym told) (went g.met.P.TotalOrder.total before after c.args.pair.now c.remove.result (c.remove.ensures.value c.args.self.now.rising))
