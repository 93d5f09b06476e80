use Rattle.digests.specs.BigEndian.{big_endian}
use Rattle.worked_examples.proofs.Examples.{too_large, padded, unknown, nothing}
use Rattle.worked_examples.proofs.refused.Goals as goal

pub returns : goal.returns
returns c =
    let a = c.refusal_of.ensures _ (padded big_endian 8) in
    let b = c.refusal_of-2.ensures _ (unknown big_endian 8) in
    let d = c.refusal_of-3.ensures _ (nothing big_endian 8) in
    let e = c.refusal_of-4.ensures _ (too_large big_endian 8) in
    cc
