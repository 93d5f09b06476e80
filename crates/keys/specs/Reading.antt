-- What reading a key answers. Assumes nothing.
use Rattle.std.specs.Prelude.{◌≡◌, ℕ, ◌+◌, ◌≤◌, List, ◌++◌, length, drop, Result, MatchResult}
use Rattle.refusals.specs.declared.Refusal.{Refusal}
use Rattle.keys.specs.declared.error.Location.{Location}
use Rattle.keys.specs.declared.error.ReadError.{ReadError}
use Rattle.keys.specs.declared.key.Key.{Key}
use Rattle.keys.specs.declared.key_ref.KeyRef.{KeyRef}
use Rattle.keys.specs.Keys.{key_bytes, ValidKey, KeyAt}
use Rattle.keys.specs.Borrowed.{ref_bytes, Borrows, Views}
use Rattle.keys.specs.Refusals.{refusal_of, Refuses}

-- the caller's key, before and after: it is the one at the front of bs, and what the answer calls the rest stands behind it;
-- or it is as it was, and bs meets the refusal
abbrev pub Reads : {D X : Type 0} → (D → List ℕ) → ℕ → (D → Type 0) → List ℕ → Key D → Key D → (X → List ℕ) → Result X ReadError → Type 0
Reads image size valid bs before after rest r = MatchResult r (λ x. KeyAt image valid bs after (rest x)) (λ e. (after ≡ before) × Refuses size bs (refusal_of e))

-- where bs begins with the bytes of any key, the answer is that key, and what stands behind it
abbrev pub Accepts : {D X : Type 0} → (D → List ℕ) → (D → Type 0) → List ℕ → Key D → (X → List ℕ) → Result X ReadError → Type 0
Accepts {D} image valid bs after rest r =
    (k : Key D) (s : List ℕ) → ValidKey valid k → bs ≡ key_bytes image k ++ s → MatchResult r (λ x. (after ≡ k) × (rest x ≡ s)) (λ _. ⊥)

-- the same, where the answer has a borrowed key
abbrev pub ViewsOnly : {D X : Type 0} → (D → List ℕ) → (D → Type 0) → List ℕ → (X → KeyRef) → (X → List ℕ) → Result X ReadError → Type 0
ViewsOnly {D} image valid bs borrowed rest r =
    (k : Key D) (s : List ℕ) → ValidKey valid k → bs ≡ key_bytes image k ++ s → MatchResult r (λ x. Views image (borrowed x) k × (rest x ≡ s)) (λ _. ⊥)

-- where bs meets a refusal, the answer is that one
abbrev pub RefusesOnly : {X : Type 0} → ℕ → List ℕ → Result X ReadError → Type 0
RefusesOnly size bs r = (f : Refusal Location) → Refuses size bs f → MatchResult r (λ _. ⊥) (λ e. refusal_of e ≡ f)

-- the place moves by the bytes of the key, within the end, and by a refusal not at all
abbrev pub Moves : {D X : Type 0} → (D → List ℕ) → Key D → ℕ → ℕ → ℕ → Result X ReadError → Type 0
Moves image key end before after r = MatchResult r (λ _. (after ≡ before + length (key_bytes image key)) × (after ≤ end)) (λ _. after ≡ before)

-- the walk over a borrowed key at place i of bs, which ended at place z
abbrev pub Walks : ℕ → List ℕ → ℕ → ℕ → Result KeyRef ReadError → Type 0
Walks size bs i z r =
    MatchResult r (λ k. Borrows size (drop i bs) k (drop z bs) × (z ≡ i + length (ref_bytes k)) × (z ≤ length bs)) (λ e. (z ≡ i) × Refuses size (drop i bs) (refusal_of e))
