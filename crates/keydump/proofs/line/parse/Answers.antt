use Rattle.std.proofs.Common.{◌≤◌, ℕ, ◌<◌, List, [], ◌∷◌, get_or, sym, ◌∙◌, subst, below_more, arith}
use Rattle.keydump.specs.declared.line.DigestType.{DigestType}
use Rattle.keydump.specs.declared.line.DigestType.TheVariants.{Bytes32, U64}
use Rattle.keydump.specs.Lines.{name_of, HasDigits}
use Rattle.keydump.proofs.line.parse.Goals as goal

pub loop-digest-preserved : goal.loop-digest-preserved
loop-digest-preserved c =
    below_more _ _ c.loop-digest.invariant
    (λ digits h. c.in_default-behind.ensures digits (subst (λ (name : List ℕ). HasDigits name c.args.text.now digits) (sym (c.as_bytes.ensures.value ∙ c.name-name.ensures)) h))

-- of every type, from what holds of each
each : (text : List ℕ) (i : ℕ) → ((k : ℕ) → k < i → (digits : List ℕ) → HasDigits (name_of (get_or (Bytes32 ∷ U64 ∷ []) k Bytes32)) text digits → ⊥) → 2 ≤ i
    → (t : DigestType) (digits : List ℕ) → HasDigits (name_of t) text digits → ⊥
each text i h l Bytes32 = h 0 (omega arith)
each text i h l U64 = h 1 (omega arith)

pub returns : goal.returns
returns c = each c.args.text.now c.loop-digest.digest-index c.loop-digest.invariant c.loop-digest-test.false
