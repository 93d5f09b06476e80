use Rattle.std.proofs.Common.{◌≡◌, ℕ, ◌+◌, ◌-◌, ◌*◌, ◌%◌, ◌^◌, ◌<◌, ◌≤◌, List, ◌++◌, length, get_or, take, drop, sym, refl, ap, ◌∙◌, arith, rules, below_more}
use Rattle.std.proofs.lemmas.List.{take_rest}
use Rattle.leb128.specs.Unsigned.{value_of, encode}
use Rattle.refusals.specs.Refusals.{refusal}
use Rattle.leb128.specs.Refusals.{Refuses, ends, tenth, padded}
use Rattle.leb128.proofs.Reading.{number_read, number_only, number_stands, refused_number, refused_only}
use Rattle.leb128.proofs.Numbers.{shift_whole, sum_fits, sum_below, value_more, read_last}
use Rattle.leb128.proofs.read.Goals as goal

-- what has been read with the byte b at i, the shift written as the machine does it
joined : (bs : List ℕ) (n i a : ℕ) → i ≤ 9 → (i ≡ 9 → get_or bs i 0 ≤ 1) → n ≡ value_of (take i bs) → i < length bs
    → a ≡ get_or bs i 0 % 128 → n + (a * 2 ^ (7 * i)) % 2 ^ 64 ≡ value_of (take (i + 1) bs)
joined bs n i a h t e l f =
    let w : (a * 2 ^ (7 * i)) % 2 ^ 64 ≡ a * 2 ^ (7 * i) = shift_whole a i (omega arith) h (λ q. let u = t q in omega arith) in
    let v = value_more bs i l in
    let m : a * 2 ^ (7 * i) ≡ (get_or bs i 0 % 128) * 2 ^ (7 * i) = ap (λ (x : ℕ). x * 2 ^ (7 * i)) f in
    omega (arith, w, v, m, e)

under : (b n i a : ℕ) → i ≤ 9 → (i ≡ 9 → b ≤ 1) → n < 2 ^ (7 * i) → a ≡ b % 128 → n + (a * 2 ^ (7 * i)) % 2 ^ 64 < 2 ^ 64
under b n i a h t e f =
    let u : i ≡ 9 → a < 2 = λ q. let v = t q in omega arith in
    let w : (a * 2 ^ (7 * i)) % 2 ^ 64 ≡ a * 2 ^ (7 * i) = shift_whole a i (omega arith) h u in
    omega (arith, w, sum_fits n a i e (omega arith) h u)

pub overflow_add-n : goal.overflow_add-n
overflow_add-n c =
    let t : c.loop-i.i ≡ 9 → get_or c.args.bytes.now c.loop-i.i 0 ≤ 1 = λ q. search rules in
    let h = under (get_or c.args.bytes.now c.loop-i.i 0) c.loop-i.n c.loop-i.i c.from.result c.loop-i.invariant.0 t c.loop-i.invariant.3 c.from.ensures in
    omega arith

pub returns-then-b-lt-CONTINUATION : goal.returns-then-b-lt-CONTINUATION
returns-then-b-lt-CONTINUATION c =
    let bs : List ℕ = c.args.bytes.now in
    let i : ℕ = c.loop-i.i in
    let t : i ≡ 9 → get_or bs i 0 ≤ 1 = λ q. search rules in
    let s : 0 < i → 0 < get_or bs i 0 = λ q. search rules in
    let j = joined bs c.loop-i.n i c.from.result c.loop-i.invariant.0 t c.loop-i.invariant.2 c.loop-i-test.true c.from.ensures in
    let w : (k : ℕ) → k < i → (128 ≤ get_or bs k 0) × (get_or bs k 0 < 256) = λ k h. (c.loop-i.invariant.1 k h, omega (arith, c.type_inv.bytes k)) in
    let m : ℕ = c.loop-i.n + (c.from.result * 2 ^ (7 * i)) % 2 ^ 64 in
    let u = under (get_or bs i 0) c.loop-i.n i c.from.result c.loop-i.invariant.0 t c.loop-i.invariant.3 c.from.ensures in
    let rest : List ℕ = take (length bs - (i + 1)) (drop (i + 1) bs) in
    let e : bs ≡ encode m ++ rest =
    read_last bs i c.loop-i-test.true w c.if-b-lt-CONTINUATION.true s ∙ ap (λ (n : ℕ). encode n ++ drop (i + 1) bs) (sym j)
    ∙ ap (λ (x : List ℕ). encode m ++ x) (sym (take_rest bs (i + 1))) in
    record { reads = number_read bs m rest u e; accepts = number_only bs m rest u e; refuses = number_stands bs m rest u e }

pub loop-i-preserved : goal.loop-i-preserved
loop-i-preserved c =
    let bs : List ℕ = c.args.bytes.now in
    let i : ℕ = c.loop-i.i in
    let t : i ≡ 9 → get_or bs i 0 ≤ 1 = λ q. search rules in
    let n : i ≤ 8 = search rules in
    let w : (c.from.result * 2 ^ (7 * i)) % 2 ^ 64 ≡ c.from.result * 2 ^ (7 * i) = shift_whole c.from.result i (omega arith) (omega arith) (λ q. absurd (omega arith)) in (
      omega arith,
      below_more _ _ c.loop-i.invariant.1 c.if-b-lt-CONTINUATION.false,
      joined bs c.loop-i.n i c.from.result c.loop-i.invariant.0 t c.loop-i.invariant.2 c.loop-i-test.true c.from.ensures,
      omega (arith, w, sum_below c.loop-i.n c.from.result i c.loop-i.invariant.3 (omega arith)),
    )

pub returns-then-b-gt-TENTH_MAX : goal.returns-then-b-gt-TENTH_MAX
returns-then-b-gt-TENTH_MAX c =
    let bs : List ℕ = c.args.bytes.now in
    let i : ℕ = c.loop-i.i in
    let h : Refuses bs (refusal 2 i) = tenth i (search rules) (search rules) c.loop-i.invariant.1 (search rules) in
    record { reads = h; accepts = refused_number bs (refusal 2 i) h; refuses = refused_only bs (refusal 2 i) h }

pub returns-then-b-eq-PADDING : goal.returns-then-b-eq-PADDING
returns-then-b-eq-PADDING c =
    let bs : List ℕ = c.args.bytes.now in
    let i : ℕ = c.loop-i.i in
    let h : Refuses bs (refusal 3 i) = padded i (search rules) (search rules) (search rules) c.loop-i.invariant.1 (search rules) in
    record { reads = h; accepts = refused_number bs (refusal 3 i) h; refuses = refused_only bs (refusal 3 i) h }

pub returns-clause-reads : goal.returns-clause-reads
returns-clause-reads c = ends (length c.args.bytes.now) refl (search rules) (λ k q. c.loop-i.invariant.1 k (search rules))
