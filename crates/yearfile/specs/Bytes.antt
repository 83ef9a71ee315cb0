-- Bytes laid into a buffer.
use Rattle.std.specs.Prelude.{ℕ, ◌+◌, List, ◌++◌, length, take, drop}

-- a buffer with these bytes from a place on, and the rest as it was
abbrev pub laid_at : ℕ → List ℕ → List ℕ → List ℕ
laid_at at bytes buffer = take at buffer ++ (bytes ++ drop (at + length bytes) buffer)
