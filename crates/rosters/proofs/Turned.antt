-- One bit of a row is turned. Assumes nothing.
use Rattle.std.proofs.Common.{◌≡◌, ℕ, ◌+◌, ◌/◌, ◌%◌, ◌^◌, ◌<◌, cond, not, eqb, List, length, get_or, set, sym, ap, ◌∙◌, ⊎_elim, arith}
use lib.Bits.{bit_xor}
use Rattle.std.proofs.lemmas.Nat.{div-add-mod'}
use Rattle.std.proofs.lemmas.Nat.Bits.{bit_at_xor, bit_at-pow_same, bit_at-pow_other}
use Rattle.std.proofs.lemmas.List.{get_or-set_same, get_or-set_other}
use Rattle.std.proofs.lemmas.Bool.{cases_eq, eq-eqb, ne_eqb, cond-true, cond-false}
use Rattle.rosters.specs.Bits.{bit_set}

-- one more, of what is below two
turn_one : (y : ℕ) → y < 2 → eqb ((y + 1) % 2) 1 ≡ not (eqb y 1)
turn_one y lt =
    ⊎_elim
    (λ z. ap (λ n. eqb ((n + 1) % 2) 1) z ∙ ap (λ n. not (eqb n 1)) (sym z))
    (λ nz. let o : y ≡ 1 = omega arith in ap (λ n. eqb ((n + 1) % 2) 1) o ∙ ap (λ n. not (eqb n 1)) (sym o))
    (cases_eq y 0)

-- the bit j of a byte of which the bit k is turned
pub turned_byte : (b k j : ℕ) → eqb (bit_xor b (2 ^ k) / 2 ^ j % 2) 1 ≡ cond (eqb j k) (not (eqb (b / 2 ^ j % 2) 1)) (eqb (b / 2 ^ j % 2) 1)
turned_byte b k j =
    let y : ℕ = b / 2 ^ j % 2 in
    let low : y < 2 = omega arith in
    let same : (y + 0) % 2 ≡ y = omega arith in
    ap (λ n. eqb n 1) (bit_at_xor b (2 ^ k) j) ∙
    ⊎_elim
    (λ e.
    ap (λ n. eqb ((y + n) % 2) 1) (ap (λ i. 2 ^ k / 2 ^ i % 2) e ∙ bit_at-pow_same k) ∙ turn_one y low ∙ sym (cond-true (eqb j k) (not (eqb y 1)) (eqb y 1) (eq-eqb j k e)))
    (λ ne.
    ap (λ n. eqb ((y + n) % 2) 1) (bit_at-pow_other k j ne) ∙ ap (λ n. eqb n 1) same ∙ sym (cond-false (eqb j k) (not (eqb y 1)) (eqb y 1) (ne_eqb j k ne)))
    (cases_eq j k)

-- the row, with the bit of one place turned
pub turned_bit : (bytes : List ℕ) (place n : ℕ) → place / 8 < length bytes
    → bit_set (set bytes (place / 8) (bit_xor (get_or bytes (place / 8) 0) (2 ^ (place % 8)))) n ≡ cond (eqb n place) (not (bit_set bytes n)) (bit_set bytes n)
turned_bit bytes place n lt =
    let b : ℕ = get_or bytes (place / 8) 0 in
    let x : ℕ = bit_xor b (2 ^ (place % 8)) in
    let pd = div-add-mod' place 8 in
    let nd = div-add-mod' n 8 in
    ⊎_elim
    (λ e.
    let here : get_or (set bytes (place / 8) x) (n / 8) 0 ≡ x = ap (λ i. get_or (set bytes (place / 8) x) i 0) e ∙ get_or-set_same bytes (place / 8) x 0 lt in
    let was : b ≡ get_or bytes (n / 8) 0 = ap (λ i. get_or bytes i 0) (sym e) in
    ap (λ y. eqb (y / 2 ^ (n % 8) % 2) 1) here ∙ turned_byte b (place % 8) (n % 8)
    ∙ ap (λ y. cond (eqb (n % 8) (place % 8)) (not (eqb (y / 2 ^ (n % 8) % 2) 1)) (eqb (y / 2 ^ (n % 8) % 2) 1)) was
    ∙ ap (λ t. cond t (not (bit_set bytes n)) (bit_set bytes n))
    (⊎_elim
    (λ q. eq-eqb (n % 8) (place % 8) (ap (λ i. i % 8) q) ∙ sym (eq-eqb n place q))
    (λ q. ne_eqb (n % 8) (place % 8) (λ r. q (omega arith)) ∙ sym (ne_eqb n place q))
    (cases_eq n place)))
    (λ ne.
    let off : n ≡ place → ⊥ = λ q. ne (ap (λ i. i / 8) q) in
    ap (λ y. eqb (y / 2 ^ (n % 8) % 2) 1) (get_or-set_other bytes (place / 8) (n / 8) x 0 ne)
    ∙ sym (cond-false (eqb n place) (not (bit_set bytes n)) (bit_set bytes n) (ne_eqb n place off)))
    (cases_eq (n / 8) (place / 8))
