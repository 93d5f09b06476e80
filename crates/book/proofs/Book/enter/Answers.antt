use Rattle.std.proofs.Common.{◌≡◌, cond, is_some, ap, subst, sym, rules}
use Rattle.table.specs.Orders.{Rising, Rising-prop}
use Rattle.table.specs.Tables.{items, capacity}
use Rattle.book.specs.declared.Book.{Book}
use Rattle.book.specs.Sets.{IsAmong, Entered}
use Rattle.book.proofs.Members.{entered}
use Rattle.book.proofs.Book.enter.Goals as goal

pub returns-in-Ok-clause-entered : goal.returns-in-Ok-clause-entered
returns-in-Ok-clause-entered g c =
    let before = items c.args.self.now.pairs in
    let after = items c.insert.new.self in
    let told : c.from.result ≡ cond (is_some c.in-Ok.before) 0 1 = search rules in
    subst (Entered before after c.args.pair) (sym told)
    (entered g.met.P.TotalOrder.total before after c.args.pair (capacity c.args.self.now.pairs) c.in-Ok.before (c.in-Ok.ensures.value c.args.self.now.rising))

pub returns-in-Err-clause-entered : goal.returns-in-Err-clause-entered
returns-in-Err-clause-entered g c =
    let less = g.P.TotalOrder.less in
    let b = c.args.self.now in
    let e = c.in-Err.ensures in
    let full = e.value b.rising in
    let out : IsAmong (items b.pairs) c.args.pair → ⊥ = λ h. full.0.none h.0 h.1 in
    -- the same table, whichever proof of its order stands beside it
    let same : (q : Rising less (items b.pairs)) → ◌≡◌ {A = Book g.row.P.Denot g.P.TotalOrder} (record { pairs = b.pairs; rising = q }) b =
    λ q. ap (λ r. record { pairs = b.pairs; rising = r }) (Rising-prop less (items b.pairs) q b.rising) in (
      search rules,
      out,
      search rules,
      subst (λ t. (q : Rising less (items t)) → ◌≡◌ {A = Book g.row.P.Denot g.P.TotalOrder} (record { pairs = t; rising = q }) b) (sym e.count.1) same _,
    )
