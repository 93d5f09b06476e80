-- The form of an input line. Assumes nothing.
use Rattle.std.specs.Prelude.{◌≡◌, ℕ, ◌+◌, ◌⊎◌, List, [], ◌∷◌, ◌++◌, length, vec_items, codes, slice_index, Some, None, Option}
use Rattle.keydump.specs.declared.line.DigestType.{DigestType}
use Rattle.keydump.specs.declared.line.DigestType.TheVariants.{Bytes32, U64}
use Rattle.keydump.specs.declared.line.EncodedKeys.{EncodedKeys}
use Rattle.keydump.specs.declared.line.LineError.{LineError}
use Rattle.keydump.specs.declared.line.LineError.TheVariants.{UnknownType, NotHexadecimal, HalfByte, NoMemory}
use Rattle.keydump.specs.Hexadecimal.{Spells, NotSpelled}

abbrev pub name_of : DigestType → List ℕ
name_of Bytes32 = codes "bytes32"
name_of U64 = codes "u64"

-- the text is the name alone, or the name, a space and the digits
abbrev pub HasDigits : List ℕ → List ℕ → List ℕ → Type 0
HasDigits name text digits = ((text ≡ name) × (digits ≡ [])) ⊎ (text ≡ name ++ 32 ∷ digits)

-- a line is skipped, or its digits spell the bytes of keys
abbrev pub IsLine : List ℕ → Option EncodedKeys → Type 0
IsLine text None = (length text ≡ 0) ⊎ (slice_index text 0 ≡ 35)
IsLine text (Some k) = (digits : List ℕ) × HasDigits (name_of k.digest) text digits × Spells digits (vec_items k.bytes)

-- digits that spell no bytes, behind the name of a type and a space
abbrev pub BadDigits : List ℕ → LineError → Type 0
BadDigits text e = (t : DigestType) × (digits : List ℕ) × HasDigits (name_of t) text digits × NotSpelled digits (length (name_of t) + 2) e

abbrev pub NotLine : List ℕ → LineError → Type 0
NotLine text UnknownType = (t : DigestType) (digits : List ℕ) → HasDigits (name_of t) text digits → ⊥
NotLine text (NotHexadecimal c) = BadDigits text (NotHexadecimal c)
NotLine text HalfByte = BadDigits text HalfByte
NotLine text NoMemory = BadDigits text NoMemory
