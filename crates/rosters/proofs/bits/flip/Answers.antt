use Rattle.std.proofs.Common.{◌/◌, ◌%◌, ◌<◌, get_or, set, ap, ◌∙◌, arith}
use lib.Bits.{bit_xor}
use Rattle.std.proofs.lemmas.Nat.{one_shl}
use Rattle.std.proofs.lemmas.List.{drop-set-lt}
use Rattle.rosters.specs.Bits.{bit_set}
use Rattle.rosters.proofs.Turned.{turned_bit}
use Rattle.rosters.proofs.bits.flip.Goals as goal

pub returns : goal.returns
returns c =
    let bytes = c.args.bits.now in
    let place = c.args.place in
    let low : place % 8 < 8 = omega arith in
    record {
      turned = λ n. ap (λ m. bit_set (set bytes (place / 8) (bit_xor (get_or bytes (place / 8) 0) m)) n) (one_shl (place % 8) 8 low) ∙ turned_bit bytes place n c.requires;
      rest = λ size lt. drop-set-lt size bytes (place / 8) _ lt;
    }
