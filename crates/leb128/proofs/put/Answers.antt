use Rattle.std.proofs.Common.{ℕ, ◌+◌, ◌/◌, ◌%◌, ◌≤◌, List, [], ◌∷◌, ◌++◌, take, sym, ap, ◌∙◌, arith}
use Rattle.std.proofs.lemmas.List.{append_assoc, take_more_set, take_all}
use Rattle.leb128.specs.Unsigned.{encode}
use Rattle.leb128.proofs.Numbers.{length-encode_more, encode_last, encode_more, encode_single, encode_several}
use Rattle.leb128.proofs.put.Goals as goal

pub loop-slot-preserved : goal.loop-slot-preserved
loop-slot-preserved c =
    let i : ℕ = c.loop-slot.slot-index in
    let r : ℕ = c.loop-slot.rest in
    let front : List ℕ = c.loop-slot.front in
    let m : 128 ≤ r = encode_several r (omega (arith, c.in-Some.ensures.cases.1)) in (
      omega (arith, length-encode_more r m),
      c.loop-slot.invariant.1 ∙ ap (λ (x : List ℕ). take i front ++ x) (encode_more r m) ∙ sym (append_assoc (take i front) ((r % 128 + 128) ∷ []) (encode (r / 128)))
          ∙ ap (λ (x : List ℕ). x ++ encode (r / 128)) (sym (take_more_set front i (r % 128 + 128) (omega arith))),
    )

pub returns-after-loop-slot : goal.returns-after-loop-slot
returns-after-loop-slot c =
    let r : ℕ = c.loop-slot.rest in
    let front : List ℕ = c.loop-slot.front in
    sym (c.loop-slot.invariant.1 ∙ ap (λ (x : List ℕ). x ++ encode r) (take_all c.loop-slot.slot-index front (omega arith))
    ∙ ap (λ (x : List ℕ). front ++ x) (encode_last r (encode_single r (omega (arith, c.in-Some.ensures.cases.1)))))
