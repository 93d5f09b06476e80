use Rattle.std.proofs.Common.{◌≡◌, ℕ, ◌+◌, ◌*◌, ◌/◌, ◌%◌, ◌<◌, List, [], ◌∷◌, ◌++◌, length, get_or, vec_items, sym, ap, ◌∙◌, subst, inl, inr, arith}
use Rattle.std.proofs.lemmas.Result.{err_from_is_err_and}
use Rattle.std.proofs.lemmas.List.{length_push, get_or-drop}
use Rattle.keydump.specs.Hexadecimal.{HexDigit}
use Rattle.keydump.proofs.Grown.{grown}
use Rattle.keydump.proofs.Pairs.{pair_at, no_digit}
use Rattle.keydump.proofs.line.decode.Goals as goal

-- a digit is below sixteen
digit_small : (c d : ℕ) → HexDigit c d → d < 16
digit_small c d (inl h) = omega arith
digit_small c d (inr h) = h.0.1

pub returns-in_err-high : goal.returns-in_err-high
returns-in_err-high c =
    let text : List ℕ = c.args.text.now in
    let i : ℕ = c.loop-i.i in
    let p = err_from_is_err_and c.from_residual.result c.from_residual.ensures.1 in
    let e = pair_at text c.as_chunks.result.0.now i 0 (2 * i) c.as_chunks.ensures.front (omega arith) (omega arith) (omega arith) in
    rw (p.1, p.2) (no_digit text c.args.column (2 * i) _ _ _ c.in_err-high.ensures (omega arith) (omega arith) e)

pub returns-in_err-low : goal.returns-in_err-low
returns-in_err-low c =
    let text : List ℕ = c.args.text.now in
    let i : ℕ = c.loop-i.i in
    let p = err_from_is_err_and c.from_residual-in_err-low.result c.from_residual-in_err-low.ensures.1 in
    let e = pair_at text c.as_chunks.result.0.now i 1 (2 * i + 1) c.as_chunks.ensures.front (omega arith) (omega arith) (omega arith) in
    rw (p.1, p.2) (no_digit text c.args.column (2 * i + 1) _ _ _ c.in_err-low.ensures (omega arith) (omega arith) e)

pub loop-i-preserved : goal.loop-i-preserved
loop-i-preserved c =
    let text : List ℕ = c.args.text.now in
    let xs : List ℕ = vec_items c.loop-i.bytes in
    let ys : List ℕ = vec_items c.push.new.self in
    let i : ℕ = c.loop-i.i in
    let x : ℕ = c.in_ok-high.high in
    let y : ℕ = c.in_ok-low.low in
    let u = pair_at text c.as_chunks.result.0.now i 0 (2 * i) c.as_chunks.ensures.front (omega arith) (omega arith) (omega arith) in
    let v = pair_at text c.as_chunks.result.0.now i 1 (2 * i + 1) c.as_chunks.ensures.front (omega arith) (omega arith) (omega arith) in
    let h : HexDigit (get_or text (2 * i) 0) x = subst (λ (z : ℕ). HexDigit z x) u c.in_ok-high.ensures in
    let l : HexDigit (get_or text (2 * i + 1) 0) y = subst (λ (z : ℕ). HexDigit z y) v c.in_ok-low.ensures in
    let s = digit_small (get_or text (2 * i + 1) 0) y l in
    let e : ys ≡ xs ++ (16 * x + y) ∷ [] = c.in_ok-push.ensures.items in
    let n : length xs ≡ i = c.loop-i.invariant.0 in
    let p : (16 * x + y) / 16 ≡ x = omega arith in
    let q : (16 * x + y) % 16 ≡ y = omega arith in (
      ap length e ∙ length_push xs (16 * x + y) ∙ ap (λ (j : ℕ). j + 1) n,
      grown (λ (k b : ℕ). HexDigit (get_or text (2 * k) 0) (b / 16)) xs ys (16 * x + y) i e n c.loop-i.invariant.1 (subst (HexDigit (get_or text (2 * i) 0)) (sym p) h),
      grown (λ (k b : ℕ). HexDigit (get_or text (2 * k + 1) 0) (b % 16)) xs ys (16 * x + y) i e n c.loop-i.invariant.2 (subst (HexDigit (get_or text (2 * i + 1) 0)) (sym q) l),
    )

pub returns-in_err-digit : goal.returns-in_err-digit
returns-in_err-digit c =
    let text : List ℕ = c.args.text.now in
    let n : ℕ = length text / 2 * 2 in
    let p = err_from_is_err_and c.from_residual-in_err-digit.result c.from_residual-in_err-digit.ensures.1 in
    let e = ap (λ (x : List ℕ). get_or x 0 0) c.as_chunks.ensures.back ∙ get_or-drop n text 0 0 in
    rw (p.1, p.2) (no_digit text c.args.column (n + 0) _ _ _ c.in_err-digit.ensures (omega arith) (omega arith) e)
