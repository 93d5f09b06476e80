-- What a reader has before it. Assumes nothing.
use Rattle.std.specs.Prelude.{ℕ, List, drop}
use Rattle.keys.specs.declared.reader.Reader.{Reader}

abbrev pub remaining : Reader → List ℕ
remaining r = drop r.cursor.place r.cursor.bytes.now
