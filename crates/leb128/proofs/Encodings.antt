-- `encode` is DWARF's encoding. Assumes nothing.
use Rattle.std.proofs.Common.{◌≡◌, ℕ, zero, suc, ◌+◌, ◌-◌, ◌*◌, ◌/◌, ◌%◌, ◌<◌, ◌≤◌, List, [], ◌∷◌, ◌++◌, length, get_or, take, sym, ap, ◌∙◌, subst, inl, inr, arith}
use Rattle.std.proofs.lemmas.Bool.{cases_lt}
use Rattle.std.proofs.lemmas.List.{take_all, take_more, length-take-le, get_or-take}
use Rattle.leb128.specs.Unsigned.{Continues, encode, value_of, Encoding, Unpadded, Accepted, OneEncoding}
use Rattle.leb128.proofs.Numbers.{shape, Going, encode_last, encode_more, encode_value, value_cons, length-encode_last, length-encode_more, encode_bytes}

encodes : (n : ℕ) → Encoding (encode n)
encodes n =
    let s = shape n in
    let e : length (encode n) - 1 ≡ s.p = omega (arith, s.long) in
    record {
      some = omega (arith, s.long);
      continues = subst (Continues (encode n)) (sym e) s.continues;
      ends = subst (λ (k : ℕ). get_or (encode n) k 0 < 128) (sym e) s.ends;
    }

unpadded : (n : ℕ) → Unpadded (encode n)
unpadded n l =
    let s = shape n in
    let e : length (encode n) - 1 ≡ s.p = omega (arith, s.long) in
    subst (λ (k : ℕ). 0 < get_or (encode n) k 0) (sym e) (s.short (omega (arith, s.long)))

value_by : (f n : ℕ) → n ≤ f → value_of (encode n) ≡ n
value_by zero n h = ap value_of (encode_last n (omega arith)) ∙ omega arith
value_by (suc f) n h =
    elim (cases_lt n 128) [
      | inl l ↦ ap value_of (encode_last n l) ∙ omega arith
      | inr m ↦
          let i : value_of (encode (n / 128)) ≡ n / 128 = value_by f (n / 128) (omega arith) in
          ap value_of (encode_more n m) ∙ value_cons (n % 128 + 128) (encode (n / 128)) ∙ omega (arith, i)
    ]

-- bytes are all but the last, and the last
split : (bs : List ℕ) → 0 < length bs → bs ≡ take (length bs - 1) bs ++ get_or bs (length bs - 1) 0 ∷ []
split bs h =
    let e : length bs - 1 + 1 ≡ length bs = omega arith in
    sym (take_all (length bs) bs (omega arith)) ∙ ap (λ (k : ℕ). take k bs) (sym e) ∙ take_more bs (length bs - 1) 0 (omega arith)

only : (bs : List ℕ) → ((k : ℕ) → get_or bs k 0 < 256) → Encoding bs → Unpadded bs → encode (value_of bs) ≡ bs
only bs w e s =
    let p : ℕ = length bs - 1 in
    let j : length (take p bs) ≡ p = length-take-le p bs (omega arith) in
    let g : Going (take p bs) = λ k l. let h : k < p = omega arith in subst (λ (x : ℕ). (128 ≤ x) × (x < 256)) (sym (get_or-take p bs k 0 h)) (e.continues k h, w k) in
    let t : bs ≡ take p bs ++ get_or bs p 0 ∷ [] = split bs e.some in
    ap (λ (x : List ℕ). encode (value_of x)) t ∙ encode_value (take p bs) (get_or bs p 0) g e.ends (λ l. s (omega arith)) ∙ sym t

least : (bs : List ℕ) → 0 < length bs → length (encode (value_of bs)) ≤ length bs
least [] h = absurd (omega arith)
least (b ∷ []) h = omega (arith, length-encode_last (value_of (b ∷ [])) (omega arith))
least (b ∷ (c ∷ bs)) h =
    let v : ℕ = value_of (c ∷ bs) in
    let e : value_of (b ∷ (c ∷ bs)) ≡ b % 128 + 128 * v = value_cons b (c ∷ bs) in
    let l : length (encode v) ≤ length (c ∷ bs) = least (c ∷ bs) (omega arith) in
    elim (cases_lt (b % 128 + 128 * v) 128) [
      | inl s ↦ omega (arith, length-encode_last (b % 128 + 128 * v) s, ap (λ (x : ℕ). length (encode x)) e)
      | inr m ↦
          let d : (b % 128 + 128 * v) / 128 ≡ v = omega arith in
          omega (arith, length-encode_more (b % 128 + 128 * v) m, ap (λ (x : ℕ). length (encode x)) e, ap (λ (x : ℕ). length (encode x)) d)
    ]

-- the only encoding that is accepted
pub accepted_only : (cs : List ℕ) (n : ℕ) → Accepted cs n → cs ≡ encode n
accepted_only cs n a = sym (only cs a.bytes a.form a.unpadded) ∙ ap encode a.value

pub one_encoding : (n : ℕ) → OneEncoding n (encode n)
one_encoding n = record {
  accepted = record { bytes = encode_bytes n; form = encodes n; unpadded = unpadded n; value = value_by n n (omega arith) };
  only = λ cs a. accepted_only cs n a;
  shortest = λ cs e v. subst (λ (m : ℕ). length (encode m) ≤ length cs) v (least cs e.some);
}
