-- What bytes meet: one number with which they begin, or one refusal, and never both. Assumes nothing.
use Rattle.std.proofs.Common.{◌≡◌, ℕ, zero, suc, ◌+◌, ◌*◌, ◌/◌, ◌%◌, ◌^◌, ◌<◌, ◌≤◌, List, ◌∷◌, ◌++◌, get_or, sym, ap, ◌∙◌, subst, inl, inr, arith}
use Rattle.std.proofs.lemmas.Bool.{cases_lt, cases_order}
use Rattle.std.proofs.lemmas.List.{get_or_append_left, length-append}
use Rattle.refusals.specs.declared.Refusal.{Refusal}
use Rattle.refusals.specs.Refusals.{refusal}
use Rattle.leb128.specs.Unsigned.{Continues, encode}
use Rattle.leb128.specs.Refusals.{Refuses, ends, tenth, padded}
use Rattle.leb128.proofs.Numbers.{Shape, shape, encode_last, encode_more, length-encode_ten}

module _ (n : ℕ) (rest : List ℕ) (s : Shape n) where
  at : (k : ℕ) → k < suc s.p → get_or (encode n ++ rest) k 0 ≡ get_or (encode n) k 0
  at k h = get_or_append_left (encode n) rest 0 k (omega (arith, s.long))

  -- no more bytes continue than p
  stops : (q : ℕ) → Continues (encode n ++ rest) q → q ≤ s.p
  stops q g = elim (cases_lt s.p q) [ inl l ↦ absurd (omega (arith, g s.p l, at s.p (omega arith), s.ends)) | inr m ↦ m ]

  not_tenth : n < 2 ^ 64 → Continues (encode n ++ rest) 9 → 1 < get_or (encode n ++ rest) 9 0 → ⊥
  not_tenth h g b =
      let l : 9 ≤ s.p = stops 9 g in
      let t : s.p ≤ 9 = omega (arith, length-encode_ten n h, s.long) in
      let e : s.p ≡ 9 = omega arith in
      let c : get_or (encode n) s.p 0 * 2 ^ 63 ≤ n = subst (λ (j : ℕ). get_or (encode n) s.p 0 * 2 ^ (7 * j) ≤ n) e s.counts in
      omega (arith, c, at s.p (omega arith), b, ap (λ (j : ℕ). get_or (encode n ++ rest) j 0) e)

  not_padded : (q : ℕ) → 0 < q → Continues (encode n ++ rest) q → get_or (encode n ++ rest) q 0 ≡ 0 → ⊥
  not_padded q z g b =
      let l : q ≤ s.p = stops q g in
      elim (cases_lt q s.p) [
        | inl m ↦ omega (arith, at q (omega arith), s.continues q m, b)
        | inr m ↦
            let e : q ≡ s.p = omega arith in
            omega (arith, at s.p (omega arith), s.short (omega arith), b, ap (λ (j : ℕ). get_or (encode n ++ rest) j 0) e)
      ]

  never : (r : Refusal ℕ) → n < 2 ^ 64 → Refuses (encode n ++ rest) r → ⊥
  never r h (ends p e t g) = omega (arith, stops p g, e, length-append (encode n) rest, s.long)
  never r h (tenth p e l g b) = not_tenth h (subst (Continues (encode n ++ rest)) e g) (subst (λ (j : ℕ). 1 < get_or (encode n ++ rest) j 0) e b)
  never r h (padded p z t l g b) = not_padded p z g b

-- bytes that are refused begin with no number
pub none_begins : (bs : List ℕ) (r : Refusal ℕ) → Refuses bs r → (n : ℕ) (rest : List ℕ) → n < 2 ^ 64 → bs ≡ encode n ++ rest → ⊥
none_begins bs r f n rest h e = never n rest (shape n) r h (subst (λ (l : List ℕ). Refuses l r) e f)

one_step : (m n : ℕ) (x y : List ℕ) → (128 ≤ m → encode (m / 128) ++ x ≡ encode (n / 128) ++ y → (m / 128 ≡ n / 128) × (x ≡ y))
    → encode m ++ x ≡ encode n ++ y → (m ≡ n) × (x ≡ y)
one_step m n x y again e =
    elim (cases_lt m 128) [
      | inl a ↦ elim (cases_lt n 128) [
        | inl b ↦
            let w : m ∷ x ≡ n ∷ y = ap (λ (l : List ℕ). l ++ x) (sym (encode_last m a)) ∙ e ∙ ap (λ (l : List ℕ). l ++ y) (encode_last n b) in
            (cc, cc)
        | inr b ↦
            let w : m ∷ x ≡ (n % 128 + 128) ∷ (encode (n / 128) ++ y) = ap (λ (l : List ℕ). l ++ x) (sym (encode_last m a)) ∙ e ∙ ap (λ (l : List ℕ). l ++ y) (encode_more n b) in
            let v : m ≡ n % 128 + 128 = cc in
            absurd (omega arith)
      ]
      | inr a ↦ elim (cases_lt n 128) [
        | inl b ↦
            let w : (m % 128 + 128) ∷ (encode (m / 128) ++ x) ≡ n ∷ y = ap (λ (l : List ℕ). l ++ x) (sym (encode_more m a)) ∙ e ∙ ap (λ (l : List ℕ). l ++ y) (encode_last n b) in
            let v : m % 128 + 128 ≡ n = cc in
            absurd (omega arith)
        | inr b ↦
            let w : (m % 128 + 128) ∷ (encode (m / 128) ++ x) ≡ (n % 128 + 128) ∷ (encode (n / 128) ++ y) =
            ap (λ (l : List ℕ). l ++ x) (sym (encode_more m a)) ∙ e ∙ ap (λ (l : List ℕ). l ++ y) (encode_more n b) in
            let v : m % 128 + 128 ≡ n % 128 + 128 = cc in
            let u : encode (m / 128) ++ x ≡ encode (n / 128) ++ y = cc in
            let i : (m / 128 ≡ n / 128) × (x ≡ y) = again a u in
            (omega (arith, i.0), i.1)
      ]
    ]

one_by : (f m n : ℕ) (x y : List ℕ) → m ≤ f → encode m ++ x ≡ encode n ++ y → (m ≡ n) × (x ≡ y)
one_by zero m n x y h e = one_step m n x y (λ a u. absurd (omega arith)) e
one_by (suc f) m n x y h e = one_step m n x y (λ a u. one_by f (m / 128) (n / 128) x y (omega arith) u) e

pub one_number : (m n : ℕ) (x y : List ℕ) → encode m ++ x ≡ encode n ++ y → (m ≡ n) × (x ≡ y)
one_number m n x y e = one_by m m n x y (omega arith) e

-- bytes meet one refusal at most
pub one_refusal : (bs : List ℕ) (r s : Refusal ℕ) → Refuses bs r → Refuses bs s → r ≡ s
one_refusal bs r s (ends p e t g) (ends q f u h) = ap (refusal 1) (e ∙ sym f)
one_refusal bs r s (ends p e t g) (tenth q f l h b) = absurd (omega arith)
one_refusal bs r s (ends p e t g) (padded q z u l h b) = absurd (omega (arith, g q (omega arith)))
one_refusal bs r s (tenth p e l g b) (ends q f u h) = absurd (omega arith)
one_refusal bs r s (tenth p e l g b) (tenth q f m h c) = ap (refusal 2) (e ∙ sym f)
one_refusal bs r s (tenth p e l g b) (padded q z u m h c) =
    elim (cases_lt q p) [
      | inl i ↦ absurd (omega (arith, g q i))
      | inr i ↦ let k : q ≡ p = omega arith in absurd (omega (arith, ap (λ (j : ℕ). get_or bs j 0) k))
    ]
one_refusal bs r s (padded p z t l g b) (ends q f u h) = absurd (omega (arith, h p (omega arith)))
one_refusal bs r s (padded p z t l g b) (tenth q f m h c) =
    elim (cases_lt p q) [
      | inl i ↦ absurd (omega (arith, h p i))
      | inr i ↦ let k : p ≡ q = omega arith in absurd (omega (arith, ap (λ (j : ℕ). get_or bs j 0) k))
    ]
one_refusal bs r s (padded p z t l g b) (padded q y u m h c) =
    elim (cases_order p q) [
      | inl i ↦ ap (refusal 3) i
      | inr d ↦ elim d [ inl i ↦ absurd (omega (arith, h p i)) | inr i ↦ absurd (omega (arith, g q i)) ]
    ]

-- a number is refused within its first ten bytes
pub refused_early : (bs : List ℕ) (r : Refusal ℕ) → Refuses bs r → r.values < 10
refused_early bs r (ends p e t g) = t
refused_early bs r (tenth p e l g b) = omega arith
refused_early bs r (padded p z t l g b) = t
