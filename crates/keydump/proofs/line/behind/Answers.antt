use Rattle.std.proofs.Common.{[], ◌∷◌, rules}
use Rattle.std.proofs.lemmas.Slice.Eq.{strip_prefix_is}
use Rattle.std.proofs.lemmas.Option.{MatchOption-at_some, MatchOption-at_none}
use Rattle.keydump.proofs.Behind.{without, alone, spaced}
use Rattle.keydump.proofs.line.behind.Goals as goal
use Rattle.std.proofs.lemmas.Bool.Decides.{Decides-eqb}

pub returns-in_err-rest : goal.returns-in_err-rest
returns-in_err-rest c =
    let p = strip_prefix_is Decides-eqb _ _ _ c.strip_prefix.ensures.cases in
    rw c.from_residual.ensures (without c.args.text.now c.args.name.now (MatchOption-at_none _ _ c.in_err-rest.was p))

pub returns-then-is_empty : goal.returns-then-is_empty
returns-then-is_empty c =
    let p = strip_prefix_is Decides-eqb _ _ _ c.strip_prefix.ensures.cases in
    alone c.args.text.now c.args.name.now c.in_ok-rest.rest.now (MatchOption-at_some _ _ c.in_ok-rest.rest c.in_ok-rest.was p) (search rules)

pub returns-else-is_empty : goal.returns-else-is_empty
returns-else-is_empty c =
    let p = strip_prefix_is Decides-eqb _ _ _ c.strip_prefix.ensures.cases in
    spaced c.args.text.now c.args.name.now c.in_ok-rest.rest.now (MatchOption-at_some _ _ c.in_ok-rest.rest c.in_ok-rest.was p) (search rules) _
    (strip_prefix_is Decides-eqb _ (32 ∷ []) _ c.strip_prefix-else-is_empty.ensures.cases)
