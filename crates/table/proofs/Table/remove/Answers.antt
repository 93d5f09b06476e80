use Rattle.std.proofs.Common.{◌≡◌, ℕ, ◌<◌, Bool, List, length, drop, Ok, Result, refl, ap, ◌∙◌, subst, length-take, rules}
use Rattle.table.specs.declared.Entry.{Entry}
use Rattle.table.specs.Searches.{Found, Searched, Within}
use Rattle.table.specs.Tables.{items}
use Rattle.table.proofs.Moved.{beyond_closed}
use Rattle.table.proofs.Rows.{row_removed}
use Rattle.table.proofs.Table.remove.Goals as goal

-- what a search says where it found the key
found : {K V : Type 0} (less : K → K → Bool) (xs : List (Entry K V)) (k : K) (r : Result ℕ ℕ) (i : ℕ) → r ≡ Ok i → Searched less xs k r → Found less xs k i
found less xs k r i e s = subst (Searched less xs k) e s

within : (n : ℕ) (r : Result ℕ ℕ) (i : ℕ) → r ≡ Ok i → Within n r → i < n
within n r i e w = subst (Within n) e w

pub returns-clause-order : goal.returns-clause-order
returns-clause-order g c =
    let t = c.args.self.now in
    let less = g.K.TotalOrder.less in
    let k = c.args.key.now in
    let i = c.in_ok-i.i in
    let e : c.search.result ≡ Ok i = search rules in
    let l = within (length (items t)) c.search.result i e c.search.ensures.within in
    λ up. (row_removed less g.met.K.TotalOrder.total t.slots.now t.len up k i (found less (items t) k c.search.result i e (c.search.ensures.value up)) l c.index-self-i.result c.copy_within.new.self (search rules) c.copy_within.ensures.after).0

pub returns-clause-kept : goal.returns-clause-kept
returns-clause-kept g c =
    let t = c.args.self.now in
    let i = c.in_ok-i.i in
    let l = within (length (items t)) c.search.result i (search rules) c.search.ensures.within in
    let wide = length-take t.len t.slots.now in
    record {
      room = refl;
      rest = ap (drop t.size) c.copy_within.ensures.after ∙ beyond_closed t.slots.now t.len i l (search rules) t.size t.filled;
    }

pub returns-clause-value : goal.returns-clause-value
returns-clause-value g c =
    let t = c.args.self.now in
    let less = g.K.TotalOrder.less in
    let k = c.args.key.now in
    let i = c.in_ok-i.i in
    let e : c.search.result ≡ Ok i = search rules in
    let l = within (length (items t)) c.search.result i e c.search.ensures.within in
    λ up. (row_removed less g.met.K.TotalOrder.total t.slots.now t.len up k i (found less (items t) k c.search.result i e (c.search.ensures.value up)) l c.index-self-i.result c.copy_within.new.self (search rules) c.copy_within.ensures.after).1
