use Rattle.std.proofs.Common.{◌≡◌, ◌≤◌, ℕ, Bool, true, false, List, length, take, sym, ap, ◌∙◌, arith, rules}
use Rattle.std.proofs.lemmas.List.{take_all}
use Rattle.row.specs.Joined.{among}
use Rattle.row.proofs.Joining.{among_more, among_at, there, more, too_many}
use Rattle.row.proofs.join_new.Goals as goal

-- nothing is among the first of a list, as many as there are or more
none : {T : Type 0} (eq : T → T → Bool) (t : T) (xs : List T) (k : ℕ) → among eq t (take k xs) ≡ false → length xs ≤ k → among eq t xs ≡ false
none eq t xs k a l = ap (among eq t) (sym (take_all k xs l)) ∙ a

pub next-preserved-then-equals : goal.next-preserved-then-equals
next-preserved-then-equals g c =
    let eq = g.T.PartialEq.eq in
    let same : eq c.held-item.result c.target-item.result ≡ true = (g.met.T.LawfulEq.identity c.held-item.result c.target-item.result).1 (search rules) in
    there eq c.args.slots.now c.args.list.now c.next.slots c.args.len c.next.target-index c.next.end c.next.invariant c.target-item.result c.next-test.true c.target-item.is
    (among_at eq c.target-item.result (take c.next.end c.next.slots) c.loop-held.held-index c.held-item.result c.loop-held-test.true c.held-item.is same)

pub loop-held-preserved : goal.loop-held-preserved
loop-held-preserved g c =
    let eq = g.T.PartialEq.eq in
    let other : eq c.held-item.result c.target-item.result ≡ false = search (g.met.T.LawfulEq.identity, rules) in
    among_more eq c.target-item.result (take c.next.end c.next.slots) c.loop-held.held-index c.held-item.result c.loop-held-test.true c.held-item.is c.loop-held.invariant other

pub returns-then-end-slots-clause-test : goal.returns-then-end-slots-clause-test
returns-then-end-slots-clause-test g c =
    let eq = g.T.PartialEq.eq in
    let out = none eq c.target-item.result (take c.next.end c.next.slots) c.loop-held.held-index c.loop-held.invariant c.loop-held-test.false in
    sym (too_many eq c.args.slots.now c.args.list.now c.next.slots c.args.len c.next.target-index c.next.end c.next.invariant c.target-item.result c.next-test.true c.target-item.is out (omega (arith, c.if-end-slots.true)))

pub next-preserved : goal.next-preserved
next-preserved g c =
    let eq = g.T.PartialEq.eq in
    let out = none eq c.target-item.result (take c.next.end c.next.slots) c.loop-held.held-index c.loop-held.invariant c.loop-held-test.false in
    more eq c.args.slots.now c.args.list.now c.next.slots c.args.len c.next.target-index c.next.end c.next.invariant c.target-item.result c.next-test.true c.target-item.is out (omega (arith, c.next.invariant.room, c.if-end-slots.false))
