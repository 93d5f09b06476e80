use Rattle.std.proofs.Common.{ℕ, List, ap, ◌∙◌, arith}
use Rattle.digests.specs.BigEndian.{big_endian}
use Rattle.types.specs.declared.round.Round.{Round}
use Rattle.keys.specs.declared.key.Key.{Key}
use Rattle.keys.specs.declared.key.Key.TheVariants.{Notarized}
use Rattle.keys.specs.Keys.{key_bytes}
use Rattle.worked_examples.proofs.Examples.{examples, finalized_300, notarized_1_128, finalized_highest}
use Rattle.worked_examples.proofs.written.Goals as goal

pub returns : goal.returns
returns c =
    let a = c.writes.ensures (ap (λ (k : Key ℕ). key_bytes big_endian k) c.finalized.ensures ∙ finalized_300 big_endian 8) (omega arith) in
    let b = c.writes-2.ensures (ap (λ (r : Round). key_bytes big_endian (Notarized r)) c.round.ensures ∙ notarized_1_128 big_endian 8) (omega arith) in
    let d = c.writes-3.ensures (ap (λ (k : Key ℕ). key_bytes big_endian k) c.finalized-2.ensures ∙ finalized_highest big_endian 8) (omega arith) in
    record { list = (examples big_endian 8, examples (λ (x : List ℕ). x) 32); value = cc }
