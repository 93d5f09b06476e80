use Rattle.std.proofs.Common.{arith}
use Rattle.std.proofs.lemmas.Grind.{common_steps}
use Rattle.row.specs.Rows.{items}
use Rattle.row.proofs.Laws.{all_of, front_of, apart_of}
use Rattle.row.proofs.Row.join.Goals as goal

pub returns-clause-all : goal.returns-clause-all
returns-clause-all g c e = all_of g.T.PartialEq.eq g.met.T.LawfulEq.identity _ (items c.args.self.now) c.args.list.now (grind (arith, common_steps))

pub returns-clause-front : goal.returns-clause-front
returns-clause-front g c = front_of g.T.PartialEq.eq g.met.T.LawfulEq.identity _ (items c.args.self.now) c.args.list.now (grind (arith, common_steps))

pub returns-clause-once : goal.returns-clause-once
returns-clause-once g c = apart_of g.T.PartialEq.eq g.met.T.LawfulEq.identity _ (items c.args.self.now) c.args.list.now (grind (arith, common_steps))
