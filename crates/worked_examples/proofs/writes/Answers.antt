use Rattle.std.proofs.Common.{rules, ◌≡◌, length, Ok, List, ℕ, ◌++◌, subst}
use Rattle.std.proofs.lemmas.Bool.Decides.{Decides-eqb}
use Rattle.std.proofs.lemmas.Result.{MatchResult-at_ok}
use Rattle.std.proofs.lemmas.Slice.Eq.{starts_is}
use Rattle.worked_examples.proofs.writes.Goals as goal

front : (out rest xs ys : List ℕ) → out ≡ xs ++ rest → xs ≡ ys → out ≡ ys ++ rest
front out rest xs ys h e = subst (λ (zs : List ℕ). out ≡ zs ++ rest) e h

pub returns-then-eq : goal.returns-then-eq
returns-then-eq c e l =
    let q : c.write.result ≡ Ok (length c.args.bytes.now) = search rules in
    let w = MatchResult-at_ok _ _ _ q c.write.ensures.writes in
    (starts_is Decides-eqb _ _ _ c.starts_with.ensures.value).1 _ (front _ _ _ _ w.2 e)
