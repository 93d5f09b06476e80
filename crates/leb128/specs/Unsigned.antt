-- Unsigned LEB128 as DWARF 5, section 7.6 describes it: seven bits of the number in each byte, the lowest first, and the
-- high bit of a byte says that another follows. Assumes nothing.
use Rattle.std.specs.Prelude.{◌≡◌, ℕ, zero, suc, ◌+◌, ◌-◌, ◌*◌, ◌/◌, ◌%◌, ◌^◌, ◌<◌, ◌≤◌, cond, List, [], ◌∷◌, length, nat_lt, slice_index, slice_index_or}

-- the low seven bits of each byte, times 2 to the seven times its place, the first place being i
abbrev pub sum_from : ℕ → List ℕ → ℕ
sum_from i [] = 0
sum_from i (b ∷ bs) = (b % 128) * 2 ^ (7 * i) + sum_from (suc i) bs

-- the number that bytes stand for
abbrev pub value_of : List ℕ → ℕ
value_of bs = sum_from 0 bs

-- each of the first p bytes has its high bit, so that another follows
abbrev pub Continues : List ℕ → ℕ → Type 0
Continues bs p = (k : ℕ) → k < p → 128 ≤ slice_index bs k

-- the bytes of one number: the high bit stands in each but the last
pub record Encoding (bs : List ℕ) : Type 0 where
  pub some : 0 < length bs
  pub continues : Continues bs (length bs - 1)
  pub ends : slice_index_or bs (length bs - 1) 0 < 128

-- the last of two or more bytes is not 00
abbrev pub Unpadded : List ℕ → Type 0
Unpadded bs = 1 < length bs → 0 < slice_index bs (length bs - 1)

-- an encoding of n that is accepted
pub record Accepted (bs : List ℕ) (n : ℕ) : Type 0 where
  pub bytes : (k : ℕ) → slice_index bs k < 256
  pub form : Encoding bs
  pub unpadded : Unpadded bs
  pub value : value_of bs ≡ n

-- bs is an accepted encoding of n, the only one, and no encoding of n, padded ones too, is shorter
pub record OneEncoding (n : ℕ) (bs : List ℕ) : Type 0 where
  pub accepted : Accepted bs n
  pub only : (cs : List ℕ) → Accepted cs n → cs ≡ bs
  pub shortest : (cs : List ℕ) → Encoding cs → value_of cs ≡ n → length bs ≤ length cs

-- the bytes that are written for n, at most f + 1 of them; `OneEncoding` says what they mean
unfoldable pub encode_by : ℕ → ℕ → List ℕ
encode_by zero n = n ∷ []
encode_by (suc f) n = cond (nat_lt n 128) (n ∷ []) ((n % 128 + 128) ∷ encode_by f (n / 128))

unfoldable pub encode : ℕ → List ℕ
unfolding encode_by
encode n = encode_by n n
