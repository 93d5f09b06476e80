-- Digits in pairs. Assumes nothing.
use Rattle.std.proofs.Common.{◌≡◌, ℕ, zero, suc, ◌+◌, ◌*◌, ◌/◌, ◌<◌, List, [], length, get_or, drop, sym, ap, ◌∙◌, subst, arith}
use Rattle.std.specs.Simd.{first_chunks}
use Rattle.std.proofs.lemmas.List.{get_or-take, get_or-drop}
use Rattle.keydump.specs.declared.line.LineError.{LineError}
use Rattle.keydump.specs.declared.line.LineError.TheVariants.{NotHexadecimal}
use Rattle.keydump.specs.Hexadecimal.{HexDigit, NotSpelled}

chunk_at : (k i j : ℕ) (text : List ℕ) → i < k → j < 2 → get_or (get_or (first_chunks 2 k text) i []) j 0 ≡ get_or text (2 * i + j) 0
chunk_at zero i j text h l = absurd (omega arith)
chunk_at (suc k) zero j text h l = get_or-take 2 text j 0 l ∙ ap (λ (m : ℕ). get_or text m 0) (omega arith)
chunk_at (suc k) (suc i) j text h l =
    chunk_at k i j (drop 2 text) (omega arith) l ∙ get_or-drop 2 text (2 * i + j) 0 ∙ ap (λ (m : ℕ). get_or text m 0) (omega arith)

-- the digit j of the pair i stands at this place of the text
pub pair_at : (text : List ℕ) (pairs : List (List ℕ)) (i j place : ℕ) → pairs ≡ first_chunks 2 (length text / 2) text → i < length text / 2 → j < 2
    → place ≡ 2 * i + j → get_or (get_or pairs i []) j 0 ≡ get_or text place 0
pair_at text pairs i j place e h l p =
    ap (λ (x : List (List ℕ)). get_or (get_or x i []) j 0) e ∙ chunk_at (length text / 2) i j text h l ∙ ap (λ (m : ℕ). get_or text m 0) (sym p)

-- a character that is no digit, at this place of the text
pub no_digit : (text : List ℕ) (column place shown c : ℕ) (e : LineError) → (e ≡ NotHexadecimal shown) × ((d : ℕ) → HexDigit c d → ⊥)
    → shown ≡ column + place → place < length text → c ≡ get_or text place 0 → NotSpelled text column e
no_digit text column place shown c e h s l p =
    subst (NotSpelled text column) (sym h.0) (place, s, l, λ d q. h.1 d (subst (λ (x : ℕ). HexDigit x d) (sym p) q))
