-- A borrowed key is a view of one key only, and its copy is that key. Assumes nothing.
use Rattle.std.proofs.Common.{◌≡◌, ℕ, List, ◌++◌, length, drop, Result, sym, refl, ap, ◌∙◌, rules, MatchResult}
use Rattle.std.proofs.lemmas.List.{drop_at, take_all}
use Rattle.refusals.specs.declared.Refusal.{Refusal}
use Rattle.leb128.proofs.Refused.{one_number}
use Rattle.keys.specs.declared.error.ReadError.{ReadError}
use Rattle.keys.specs.declared.error.Location.{Location}
use Rattle.keys.specs.declared.key.Key.{Key}
use Rattle.keys.specs.declared.key_ref.KeyRef.{KeyRef}
use Rattle.keys.specs.Keys.{key_bytes, ValidKey, KeyAt}
use Rattle.keys.specs.Borrowed.{Borrows, Views, Copies}
use Rattle.keys.specs.Reading.{Walks}
use Rattle.keys.specs.Refusals.{refusal_of, Refuses}
use Rattle.keys.proofs.Alone.{fronts, first, after, same_height, same_round, two_numbers, block_stands, height_stands, round_stands, not_refused, one_refusal}

-- bytes that a borrowed key stands at the front of meet no refusal
pub borrow_stands : (size : ℕ) (bs : List ℕ) (b : KeyRef) (rest : List ℕ) → Borrows size bs b rest → (f : Refusal Location) → Refuses size bs f → ⊥
borrow_stands = search (block_stands, height_stands, round_stands, rules)

module _ {D : Type 0} (image : D → List ℕ) (size : ℕ) (valid : D → Type 0) (long : (d : D) → valid d → length (image d) ≡ size)
    (one : (a b : D) → valid a → valid b → image a ≡ image b → a ≡ b) where
  pub views : (bs : List ℕ) (b : KeyRef) (rest : List ℕ) → Borrows size bs b rest → (k : Key D) (s : List ℕ) → ValidKey valid k → bs ≡ key_bytes image k ++ s
      → Views image b k × (rest ≡ s)
  views = search (fronts, long, after, first, one_number, two_numbers, same_height, same_round, rules)

  at : (bs : List ℕ) (k : Key D) (rest : List ℕ) → bs ≡ key_bytes image k ++ rest → ValidKey valid k → KeyAt image valid bs k rest
  at bs k rest e w = record { front = e; behind = sym (ap (drop (length (key_bytes image k))) e ∙ drop_at (key_bytes image k) rest (length (key_bytes image k)) refl); holds = w }

  pub copied : (bs : List ℕ) (b : KeyRef) (rest : List ℕ) → Borrows size bs b rest → (k : Key D) → Copies size image valid b k → KeyAt image valid bs k rest
  copied = search (at, take_all, rules)

  pub walk_accepts : (bs : List ℕ) (i z : ℕ) (r : Result KeyRef ReadError) → Walks size bs i z r → (k : Key D) (s : List ℕ) → ValidKey valid k → drop i bs ≡ key_bytes image k ++ s
      → MatchResult r (λ b. Views image b k × (drop z bs ≡ s)) (λ _. ⊥)
  walk_accepts = search (views, not_refused, rules)

  pub walk_refuses : (bs : List ℕ) (i z : ℕ) (r : Result KeyRef ReadError) → Walks size bs i z r → (f : Refusal Location) → Refuses size (drop i bs) f
      → MatchResult r (λ _. ⊥) (λ e. refusal_of e ≡ f)
  walk_refuses = search (borrow_stands, one_refusal, rules)
