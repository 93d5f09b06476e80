use Rattle.std.proofs.Common.{◌≡◌, ℕ, ◌+◌, ◌-◌, ◌≤◌, List, ◌++◌, length, drop, sym, refl, ap, ◌∙◌, arith, rules}
use Rattle.std.proofs.lemmas.List.{drop-drop, drop_at}
use Rattle.row.proofs.Row.open.Goals as goal

behind : {T : Type 0} (front xs : List T) (k n : ℕ) → length front ≡ k → k ≤ n → drop n (front ++ drop k xs) ≡ drop n xs
behind front xs k n e l =
    let m : ℕ = n - k in
    let w : k + m ≡ n = omega arith in
    ap (λ i. drop i (front ++ drop k xs)) (sym w) ∙ sym (drop-drop m k (front ++ drop k xs)) ∙ ap (drop m) (drop_at front (drop k xs) k e) ∙ drop-drop m k xs ∙ ap (λ i. drop i xs) w

pub returns-clause-kept : goal.returns-clause-kept
returns-clause-kept g c = (refl, behind c.copy_from_slice.new.self c.args.self.now.slots.now (length c.args.list.now) c.args.self.now.size (search rules) (omega arith))
