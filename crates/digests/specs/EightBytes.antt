-- The bytes of numbers of 64 bits tell them apart, and are in their order. Assumes nothing.
use Rattle.std.specs.Prelude.{◌≡◌, ℕ, zero, suc, ◌+◌, ◌*◌, ◌/◌, ◌%◌, ◌^◌, ◌<◌, ◌≤◌, true, List, ◌∷◌, length, take, nat_lt, slice_index, refl}
use Rattle.std.proofs.Common.{sym, ap, ◌∙◌, add-mul, mul-le-mul_right, mod-lt, arith, inl, inr}
use Rattle.std.proofs.Math.Nat.{one-le-pow, pow-succ'}
use Rattle.std.proofs.Math.Arith.{mod-mul}
use Rattle.std.proofs.lemmas.List.{get_or-take, get_or_past, length-take}
use Rattle.std.proofs.lemmas.Bool.{cases_lt, cases_order, lt-ltb, le-ltb}
use Rattle.std.proofs.lemmas.Nat.{be_bytes_8, from_be_bytes-to_be_bytes_8}
use Rattle.std.specs.Int.{w64, from_be_bytes, to_be_bytes}
use Rattle.order.specs.Orders.{lex_less}
use Rattle.order.specs.Lexical.{lex_total, step_lt, step_eq}
use Rattle.order.specs.Totals.{asymmetric, irreflexive}
use Rattle.digests.specs.BigEndian.{bytes_of, big_endian}

-- as the library writes them
written : (n : ℕ) → big_endian n ≡ to_be_bytes w64 n
written n = let e : n / 1 % 256 ≡ n % 256 = omega arith in cc

-- the bytes of the number that eight bytes make are those bytes
pub big_endian-summed : (xs : List ℕ) → length xs ≡ 8 → ((k : ℕ) → slice_index xs k < 256) → big_endian (from_be_bytes w64 xs) ≡ xs
big_endian-summed xs l w = written (from_be_bytes w64 xs) ∙ be_bytes_8 xs (from_be_bytes w64 xs) l w refl

-- bytes that are each below 256 are so in their first n too
pub take_bytes : (n : ℕ) (bs xs : List ℕ) → xs ≡ take n bs → ((k : ℕ) → slice_index bs k < 256) → (k : ℕ) → slice_index xs k < 256
take_bytes n bs xs e w k =
    elim (cases_lt k n) [
      | inl l ↦ omega (arith, ap (λ (x : List ℕ). slice_index x k) e, get_or-take n bs k 0 l, w k)
      | inr l ↦ omega (arith, ap (λ (x : List ℕ). slice_index x k) e, get_or_past (take n bs) k 0 (omega (arith, length-take n bs)))
    ]

-- a number of 64 bits is what its bytes make
pub summed-big_endian : (n : ℕ) → n < 2 ^ 64 → from_be_bytes w64 (big_endian n) ≡ n
summed-big_endian n h = ap (from_be_bytes w64) (written n) ∙ from_be_bytes-to_be_bytes_8 n h

pub big_endian_one : (a b : ℕ) → a < 2 ^ 64 → b < 2 ^ 64 → big_endian a ≡ big_endian b → a ≡ b
big_endian_one a b h k e = sym (summed-big_endian a h) ∙ ap (from_be_bytes w64) e ∙ summed-big_endian b k

-- a first byte that is not above the other's decides, or leaves it to the others
level : (x y : ℕ) (xs ys : List ℕ) → (y < x → ⊥) → (x ≡ y → lex_less xs ys ≡ true) → lex_less (x ∷ xs) (y ∷ ys) ≡ true
level x y xs ys n h =
    elim (cases_order x y) [
      | inl e ↦ step_eq x y xs ys e ∙ h e
      | inr d ↦ elim d [ inl l ↦ step_lt x y xs ys l | inr l ↦ absurd (n l) ]
    ]

-- of two numbers the one that is lower in its last k bytes has the lower bytes there, from the first of them
less_by : (k a b : ℕ) → a % 256 ^ k < b % 256 ^ k → lex_less (bytes_of k a) (bytes_of k b) ≡ true
less_by zero a b h = absurd (omega arith)
less_by (suc k) a b h =
    let m : ℕ = 256 ^ k in
    let pos : 0 < m = one-le-pow k 256 (omega arith) in
    let x : ℕ = a / m % 256 in
    let y : ℕ = b / m % 256 in
    let p : a % 256 ^ suc k ≡ x * m + a % m = ap (λ (w : ℕ). a % w) (pow-succ' 256 k) ∙ mod-mul a (omega arith) pos in
    let q : b % 256 ^ suc k ≡ y * m + b % m = ap (λ (w : ℕ). b % w) (pow-succ' 256 k) ∙ mod-mul b (omega arith) pos in
    let v : b % m < m = mod-lt b pos in
    let above : y < x → ⊥ = λ g. let t : (y + 1) * m ≤ x * m = mul-le-mul_right m (omega arith) in omega (arith, t, add-mul y 1 m, p, q, v, h) in
    let same : x ≡ y → a % m < b % m = λ e. omega (arith, ap (λ (w : ℕ). w * m) e, p, q, h) in
    level x y (bytes_of k a) (bytes_of k b) above (λ e. less_by k a b (same e))

-- the bytes of the lower number are the lower ones, from the first byte
big_endian_less : (a b : ℕ) → a < b → b < 2 ^ 64 → lex_less (big_endian a) (big_endian b) ≡ true
big_endian_less a b h w = less_by 8 a b (omega arith)

pub big_endian_order : (a b : ℕ) → a < 2 ^ 64 → b < 2 ^ 64 → nat_lt a b ≡ lex_less (big_endian a) (big_endian b)
big_endian_order a b h k =
    elim (cases_order a b) [
      | inl e ↦ le-ltb a b (omega arith) ∙ sym (ap (λ (x : ℕ). lex_less (big_endian x) (big_endian b)) e ∙ irreflexive lex_total (big_endian b))
      | inr d ↦ elim d [
        | inl l ↦ lt-ltb a b l ∙ sym (big_endian_less a b l k)
        | inr l ↦ le-ltb a b (omega arith) ∙ sym (asymmetric lex_total (big_endian b) (big_endian a) (big_endian_less b a l h))
      ]
    ]
