-- How many items a batch takes.
use Rattle.std.specs.Prelude.{ℕ, ◌+◌, if◌then◌else◌, List, [], ◌∷◌, nat_lt, suc, zero}

-- of items of these sizes in bytes, at most `most`, behind others of the batch that have `bytes`: as many as 16,777,216 bytes hold
abbrev pub further : ℕ → List ℕ → ℕ → ℕ
further bytes [] most = 0
further bytes (size ∷ sizes) zero = 0
further bytes (size ∷ sizes) (suc most) = if nat_lt 16777216 (bytes + size) then 0 else further (bytes + size) sizes most + 1

-- the longest front with at most `most` items and 16,777,216 bytes; the first item is taken whatever its size, where `most` is above 0
abbrev pub cut : List ℕ → ℕ → ℕ
cut [] most = 0
cut (size ∷ sizes) zero = 0
cut (size ∷ sizes) (suc most) = further size sizes most + 1
