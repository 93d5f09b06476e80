-- Laws of the encoding of numbers. Assumes nothing.
use Rattle.std.proofs.Common.{◌≡◌, ℕ, zero, suc, ◌+◌, ◌*◌, ◌/◌, ◌%◌, ◌^◌, ◌<◌, ◌≤◌, ◌-◌, max, true, false, ltb, List, [], ◌∷◌, ◌++◌, length, get_or, take, drop, sym, refl, ap, ◌∙◌, subst, inl, inr, suc-le-suc, mul_assoc, mul_comm, add-mul, zero-add, arith, pow-add}
use Rattle.std.proofs.Math.Nat.{one-le-pow}
use Rattle.std.proofs.lemmas.Bool.{cases_lt, lt-ltb, le-ltb}
use Rattle.std.proofs.lemmas.Nat.{shl_whole}
use Rattle.std.proofs.lemmas.List.{take_more, take-append-drop, get_or-take, length-take-le}
use Rattle.leb128.specs.Unsigned.{sum_from, value_of, Continues, encode_by, encode}

-- 2 ^ (7 * (i + 1)) is 128 times 2 ^ (7 * i)
pub next_power : (i : ℕ) → 2 ^ (7 * suc i) ≡ 128 * 2 ^ (7 * i)
next_power i =
    let e : 7 * suc i ≡ 7 + 7 * i = omega arith in
    ap (λ (k : ℕ). 2 ^ k) e ∙ pow-add 2 7 (7 * i)

pub next_power_one : (i : ℕ) → 2 ^ (7 * (i + 1)) ≡ 128 * 2 ^ (7 * i)
next_power_one i =
    let e : 7 * (i + 1) ≡ 7 + 7 * i = omega arith in
    ap (λ (k : ℕ). 2 ^ k) e ∙ pow-add 2 7 (7 * i)

-- each byte one place higher: 128 times the sum
pub sum_higher : (i : ℕ) (bs : List ℕ) → sum_from (suc i) bs ≡ 128 * sum_from i bs
sum_higher i [] = refl
sum_higher i (b ∷ bs) =
    let h : sum_from (suc (suc i)) bs ≡ 128 * sum_from (suc i) bs = sum_higher (suc i) bs in
    let p : (b % 128) * 2 ^ (7 * suc i) ≡ 128 * ((b % 128) * 2 ^ (7 * i)) =
    ap (λ (x : ℕ). (b % 128) * x) (next_power i) ∙ sym (mul_assoc (b % 128) 128 (2 ^ (7 * i)))
    ∙ ap (λ (x : ℕ). x * 2 ^ (7 * i)) (mul_comm (b % 128) 128) ∙ mul_assoc 128 (b % 128) (2 ^ (7 * i)) in
    omega (arith, h, p)

pub value_cons : (b : ℕ) (bs : List ℕ) → value_of (b ∷ bs) ≡ b % 128 + 128 * value_of bs
value_cons b bs = omega (arith, sum_higher 0 bs)

pub sum_push : (i : ℕ) (xs : List ℕ) (b : ℕ) → sum_from i (xs ++ b ∷ []) ≡ sum_from i xs + (b % 128) * 2 ^ (7 * (i + length xs))
sum_push i [] b =
    let e : i + 0 ≡ i = omega arith in
    rw e (omega arith)
sum_push i (x ∷ xs) b =
    let e : suc i + length xs ≡ i + suc (length xs) = omega arith in
    let h = sum_push (suc i) xs b in
    let k : (b % 128) * 2 ^ (7 * (suc i + length xs)) ≡ (b % 128) * 2 ^ (7 * (i + suc (length xs))) = ap (λ (m : ℕ). (b % 128) * 2 ^ (7 * m)) e in
    omega (arith, h, k)

pub value_push : (xs : List ℕ) (b n : ℕ) → length xs ≡ n → value_of (xs ++ b ∷ []) ≡ value_of xs + (b % 128) * 2 ^ (7 * n)
value_push xs b n e =
    sum_push 0 xs b ∙ ap (λ (m : ℕ). value_of xs + (b % 128) * 2 ^ (7 * m)) (zero-add (length xs) ∙ e)

pub value_more : (bs : List ℕ) (i : ℕ) → i < length bs → value_of (take (i + 1) bs) ≡ value_of (take i bs) + (get_or bs i 0 % 128) * 2 ^ (7 * i)
value_more bs i h =
    ap value_of (take_more bs i 0 h) ∙ value_push (take i bs) (get_or bs i 0) i (length-take-le i bs (omega arith))

-- what the shift of a byte's low bits loses: nothing
pub shift_whole : (a i : ℕ) → a < 128 → i ≤ 9 → (i ≡ 9 → a < 2) → (a * 2 ^ (7 * i)) % 2 ^ 64 ≡ a * 2 ^ (7 * i)
shift_whole a i h j t =
    elim (cases_lt i 9) [ inl l ↦ shl_whole a 7 (7 * i) 64 h (omega arith) | inr g ↦ shl_whole a 1 (7 * i) 64 (t (omega arith)) (omega arith) ]

pub sum_below : (n a i : ℕ) → n < 2 ^ (7 * i) → a < 128 → n + a * 2 ^ (7 * i) < 2 ^ (7 * (i + 1))
sum_below n a i h k =
    let q = next_power_one i in
    let m : (a + 1) * 2 ^ (7 * i) ≤ 128 * 2 ^ (7 * i) = native.Mathlib.Nat.mul-le-mul_right (2 ^ (7 * i)) (omega arith) in
    omega (arith, q, m, add-mul a 1 (2 ^ (7 * i)))

pub sum_fits : (n a i : ℕ) → n < 2 ^ (7 * i) → a < 128 → i ≤ 9 → (i ≡ 9 → a < 2) → n + a * 2 ^ (7 * i) < 2 ^ 64
sum_fits n a i h k j t =
    elim (cases_lt i 9) [
      | inl l ↦ let p : 2 ^ (7 * (i + 1)) ≤ 2 ^ 64 = lib.Pow.pow_mono {i = 7 * (i + 1)} {j = 64} (omega arith) in omega (arith, sum_below n a i h k, p)
      | inr g ↦
          let e : i ≡ 9 = omega arith in
          let s : a < 2 = t e in
          let f : n < 2 ^ 63 = subst (λ (m : ℕ). n < 2 ^ (7 * m)) e h in
          subst (λ (m : ℕ). n + a * 2 ^ (7 * m) < 2 ^ 64) (sym e) (omega arith)
    ]

-- the bytes written do not hang on how many turns are allowed
turns : (f g n : ℕ) → n ≤ f → n ≤ g → encode_by f n ≡ encode_by g n
unfolding encode_by
turns zero zero n h k = refl
turns zero (suc g) n h k = let e : ltb n 128 ≡ true = lt-ltb n 128 (omega arith) in rw e refl
turns (suc f) zero n h k = let e : ltb n 128 ≡ true = lt-ltb n 128 (omega arith) in rw e refl
turns (suc f) (suc g) n h k =
    elim (cases_lt n 128) [
      | inl l ↦ let e : ltb n 128 ≡ true = lt-ltb n 128 l in rw e refl
      | inr m ↦
          let e : ltb n 128 ≡ false = le-ltb n 128 m in
          rw e (ap (λ (bs : List ℕ). (n % 128 + 128) ∷ bs) (turns f g (n / 128) (omega arith) (omega arith)))
    ]

pub encode_last : (n : ℕ) → n < 128 → encode n ≡ n ∷ []
unfolding encode encode_by
encode_last zero h = refl
encode_last (suc m) h = let e : ltb (suc m) 128 ≡ true = lt-ltb (suc m) 128 h in rw e refl

pub encode_more : (n : ℕ) → 128 ≤ n → encode n ≡ (n % 128 + 128) ∷ encode (n / 128)
unfolding encode encode_by
encode_more zero h = absurd (omega arith)
encode_more (suc m) h =
    let e : ltb (suc m) 128 ≡ false = le-ltb (suc m) 128 h in
    rw e (ap (λ (bs : List ℕ). (suc m % 128 + 128) ∷ bs) (turns m (suc m / 128) (suc m / 128) (omega arith) (omega arith)))

-- bytes after each of which another follows
abbrev pub Going : List ℕ → Type 0
Going xs = (k : ℕ) → k < length xs → (128 ≤ get_or xs k 0) × (get_or xs k 0 < 256)

value_positive : (xs : List ℕ) (b : ℕ) → 0 < b → b < 128 → 0 < value_of (xs ++ b ∷ [])
value_positive [] b h k = omega arith
value_positive (x ∷ xs) b h k = omega (arith, value_cons x (xs ++ b ∷ []), value_positive xs b h k)

pub encode_value : (xs : List ℕ) (b : ℕ) → Going xs → b < 128 → (0 < length xs → 0 < b) → encode (value_of (xs ++ b ∷ [])) ≡ xs ++ b ∷ []
encode_value [] b g h s =
    let e : value_of (b ∷ []) ≡ b = omega arith in
    ap encode e ∙ encode_last b h
encode_value (x ∷ xs) b g h s =
    let p : 0 < b = s (omega arith) in
    let v : ℕ = value_of (xs ++ b ∷ []) in
    let q : 0 < v = value_positive xs b p h in
    let n : value_of (x ∷ (xs ++ b ∷ [])) ≡ x % 128 + 128 * v = value_cons x (xs ++ b ∷ []) in
    let x1 = g 0 (omega arith) in
    let m : (x % 128 + 128 * v) % 128 + 128 ≡ x = omega (arith, x1) in
    let d : (x % 128 + 128 * v) / 128 ≡ v = omega arith in
    let i : encode v ≡ xs ++ b ∷ [] = encode_value xs b (λ k l. g (suc k) (suc-le-suc l)) h (λ _. p) in
    ap encode n ∙ encode_more (x % 128 + 128 * v) (omega arith) ∙ ap (λ (y : ℕ). y ∷ encode ((x % 128 + 128 * v) / 128)) m
    ∙ ap (λ (y : ℕ). x ∷ encode y) d ∙ ap (λ (bs : List ℕ). x ∷ bs) i

-- what the reader has read at the number's last byte
pub read_last : (bs : List ℕ) (i : ℕ) → i < length bs → ((k : ℕ) → k < i → (128 ≤ get_or bs k 0) × (get_or bs k 0 < 256))
    → get_or bs i 0 < 128 → (0 < i → 0 < get_or bs i 0) → bs ≡ encode (value_of (take (i + 1) bs)) ++ drop (i + 1) bs
read_last bs i l g h s =
    let j : length (take i bs) ≡ i = length-take-le i bs (omega arith) in
    let w : Going (take i bs) = λ k m. let n : k < i = omega arith in subst (λ (y : ℕ). (128 ≤ y) × (y < 256)) (sym (get_or-take i bs k 0 n)) (g k n) in
    let e : encode (value_of (take i bs ++ get_or bs i 0 ∷ [])) ≡ take i bs ++ get_or bs i 0 ∷ [] = encode_value (take i bs) (get_or bs i 0) w h (λ m. s (omega arith)) in
    let t = take_more bs i 0 l in
    sym (take-append-drop (i + 1) bs) ∙ ap (λ (x : List ℕ). x ++ drop (i + 1) bs) (t ∙ sym e ∙ ap (λ (x : List ℕ). encode (value_of x)) (sym t))

-- at most k + 1 bytes are written for a number of 7 * (k + 1) bits
pub length-encode : (k n : ℕ) → n < 2 ^ (7 * suc k) → length (encode n) ≤ suc k
length-encode zero n h = omega (arith, ap length (encode_last n h))
length-encode (suc k) n h =
    elim (cases_lt n 128) [
      | inl l ↦ omega (arith, ap length (encode_last n l))
      | inr m ↦
          let p = next_power (suc k) in
          omega (arith, ap length (encode_more n m), length-encode k (n / 128) (omega (arith, p)))
    ]

pub length-encode_ten : (n : ℕ) → n < 2 ^ 64 → length (encode n) ≤ 10
length-encode_ten n h = length-encode 9 n (omega arith)

pub length-encode_last : (n : ℕ) → n < 128 → length (encode n) ≡ 1
length-encode_last n h = ap length (encode_last n h)

pub length-encode_more : (n : ℕ) → 128 ≤ n → length (encode n) ≡ length (encode (n / 128)) + 1
length-encode_more n h = omega (arith, ap length (encode_more n h))

pub length-encode_pos : (n : ℕ) → 0 < length (encode n)
length-encode_pos n = elim (cases_lt n 128) [ inl l ↦ omega (arith, length-encode_last n l) | inr m ↦ omega (arith, length-encode_more n m) ]

pub encode_single : (n : ℕ) → length (encode n) ≤ 1 → n < 128
encode_single n h = elim (cases_lt n 128) [ inl l ↦ l | inr m ↦ absurd (omega (arith, length-encode_more n m, length-encode_pos (n / 128))) ]

pub encode_several : (n : ℕ) → 1 < length (encode n) → 128 ≤ n
encode_several n h = elim (cases_lt n 128) [ inl l ↦ absurd (omega (arith, length-encode_last n l)) | inr m ↦ m ]

-- a byte for each seven bits up to the highest, whose place is p
size_by : (f p n : ℕ) → p ≤ f → 2 ^ p ≤ n → n < 2 * 2 ^ p → length (encode n) ≡ p / 7 + 1
size_by zero p n g h k =
    let z : p ≡ 0 = omega arith in
    let e : 2 ^ p ≡ 1 = ap (λ (x : ℕ). 2 ^ x) z in
    omega (arith, length-encode_last n (omega arith))
size_by (suc f) p n g h k =
    elim (cases_lt p 7) [
      | inl l ↦
          let b : 2 ^ suc p ≤ 2 ^ 7 = lib.Pow.pow_mono {i = suc p} {j = 7} (omega arith) in
          omega (arith, length-encode_last n (omega arith))
      | inr m ↦
          let e : 7 + (p - 7) ≡ p = omega arith in
          let q : 2 ^ p ≡ 128 * 2 ^ (p - 7) = ap (λ (x : ℕ). 2 ^ x) (sym e) ∙ pow-add 2 7 (p - 7) in
          let o : 0 < 2 ^ (p - 7) = one-le-pow (p - 7) 2 (omega arith) in
          omega (arith, length-encode_more n (omega arith), size_by f (p - 7) (n / 128) (omega arith) (omega arith) (omega arith))
    ]

pub size_at : (n p : ℕ) → 2 ^ p ≤ max n 1 → max n 1 < 2 * 2 ^ p → length (encode n) ≡ p / 7 + 1
size_at zero p h k = omega (arith, length-encode_last 0 (omega arith), size_by p p 1 (omega arith) h k, length-encode_last 1 (omega arith))
size_at (suc n) p h k = size_by p p (suc n) (omega arith) (omega arith) (omega arith)

-- the short numbers
pub one_byte : (n : ℕ) → n < 128 → length (encode n) ≡ 1
one_byte = length-encode_last

pub two_bytes : (n : ℕ) → 128 ≤ n → n < 16384 → length (encode n) ≡ 2
two_bytes n h k = omega (arith, length-encode_more n h, length-encode_last (n / 128) (omega arith))

-- the bytes of n: p with the high bit and one without; the last is not 0 unless it is the first, and counts 2 ^ (7 * p) fold
pub record Shape (n : ℕ) : Type 0 where
  pub p : ℕ
  pub long : length (encode n) ≡ suc p
  pub continues : Continues (encode n) p
  pub ends : get_or (encode n) p 0 < 128
  pub short : 0 < p → 0 < get_or (encode n) p 0
  pub counts : get_or (encode n) p 0 * 2 ^ (7 * p) ≤ n

shape_last : (n : ℕ) → n < 128 → Shape n
shape_last n h =
    let e : encode n ≡ n ∷ [] = encode_last n h in
    record { p = 0; long = ap length e; continues = λ k l. absurd (omega arith); ends = omega (arith, ap (λ (x : List ℕ). get_or x 0 0) e); short = λ l. absurd (omega arith); counts = omega (arith, ap (λ (x : List ℕ). get_or x 0 0) e) }

shape_more : (n : ℕ) → 128 ≤ n → Shape (n / 128) → Shape n
shape_more n h s =
    let e : encode n ≡ (n % 128 + 128) ∷ encode (n / 128) = encode_more n h in
    let q : ℕ = s.p in
    let g : get_or (encode n) (suc q) 0 ≡ get_or (encode (n / 128)) q 0 = ap (λ (x : List ℕ). get_or x (suc q) 0) e in
    let b : ℕ = get_or (encode (n / 128)) q 0 in
    let w : b * 2 ^ (7 * suc q) ≡ 128 * (b * 2 ^ (7 * q)) =
    ap (λ (x : ℕ). b * x) (next_power q) ∙ sym (mul_assoc b 128 (2 ^ (7 * q))) ∙ ap (λ (x : ℕ). x * 2 ^ (7 * q)) (mul_comm b 128) ∙ mul_assoc 128 b (2 ^ (7 * q)) in
    let z : 0 < b = elim (cases_lt 0 q) [
      | inl l ↦ s.short l
      | inr l ↦
          let y : q ≡ 0 = omega arith in
          let o : length (encode (n / 128)) ≡ 1 = omega (arith, s.long) in
          elim (cases_lt (n / 128) 128) [
            | inl m ↦ let f = encode_last (n / 128) m in omega (arith, ap (λ (j : ℕ). get_or (encode (n / 128)) j 0) y, ap (λ (x : List ℕ). get_or x 0 0) f)
            | inr m ↦ absurd (omega (arith, length-encode_more (n / 128) m, length-encode_pos (n / 128 / 128)))
          ]
    ] in
    record {
      p = suc q;
      long = ap length e ∙ ap suc s.long;
      continues = λ k l. continues_at k l;
      ends = omega (arith, g, s.ends);
      short = λ l. omega (arith, g, z);
      counts = omega (arith, w, s.counts, ap (λ (x : ℕ). x * 2 ^ (7 * suc q)) g);
    }
  where
    continues_at : (k : ℕ) → k < suc s.p → 128 ≤ get_or (encode n) k 0
    continues_at zero l = omega (arith, ap (λ (x : List ℕ). get_or x 0 0) (encode_more n h))
    continues_at (suc k) l = omega (arith, ap (λ (x : List ℕ). get_or x (suc k) 0) (encode_more n h), s.continues k (omega arith))

shape_by : (f n : ℕ) → n ≤ f → Shape n
shape_by zero n h = shape_last n (omega arith)
shape_by (suc f) n h = elim (cases_lt n 128) [ inl l ↦ shape_last n l | inr m ↦ shape_more n m (shape_by f (n / 128) (omega arith)) ]

pub shape : (n : ℕ) → Shape n
shape n = shape_by n n (omega arith)

single : (n : ℕ) → n < 128 → (k : ℕ) → get_or (encode n) k 0 < 256
single n h zero = omega (arith, ap (λ (x : List ℕ). get_or x 0 0) (encode_last n h))
single n h (suc k) = omega (arith, ap (λ (x : List ℕ). get_or x (suc k) 0) (encode_last n h))

bytes_by : (f n : ℕ) → n ≤ f → (k : ℕ) → get_or (encode n) k 0 < 256
bytes_by zero n h k = single n (omega arith) k
bytes_by (suc f) n h k =
    elim (cases_lt n 128) [
      | inl l ↦ single n l k
      | inr m ↦ after n m k (bytes_by f (n / 128) (omega arith))
    ]
  where
    after : (m : ℕ) → 128 ≤ m → (j : ℕ) → ((i : ℕ) → get_or (encode (m / 128)) i 0 < 256) → get_or (encode m) j 0 < 256
    after m g zero w = omega (arith, ap (λ (x : List ℕ). get_or x 0 0) (encode_more m g))
    after m g (suc j) w = omega (arith, ap (λ (x : List ℕ). get_or x (suc j) 0) (encode_more m g), w j)

pub encode_bytes : (n k : ℕ) → get_or (encode n) k 0 < 256
encode_bytes n k = bytes_by n n (omega arith) k
