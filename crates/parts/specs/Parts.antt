-- Parts of a memory: their bytes, and when two share none.
use Rattle.std.specs.Prelude.{ℕ, ◌+◌, ◌≤◌, ◌<◌, List, take, drop}
use Rattle.std.proofs.lemmas.List.Edits.{sets}
use Rattle.parts.specs.declared.Part.{Part}

-- the byte i is one of the part's
abbrev pub Has : Part → ℕ → Type 0
Has p i = (p.start ≤ i) × (i < p.start + p.length)

-- two parts that share no byte
abbrev pub Apart : Part → Part → Type 0
Apart p q = (i : ℕ) → Has p i → Has q i → ⊥

-- the part's bytes
abbrev pub bytes_of : Part → List ℕ → List ℕ
bytes_of p m = take p.length (drop p.start m)

-- the memory with other bytes in the part's place. (`sets m b e` is m with the bytes from b on replaced by e)
unfoldable pub replaced : Part → List ℕ → List ℕ → List ℕ
replaced p e m = sets m p.start e
