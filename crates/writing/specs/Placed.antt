-- Bytes that are written into a buffer at a place. proofs/Placed.antt has the laws of writing them one after the other. Assumes nothing.
use Rattle.std.specs.Prelude.{List, ◌++◌, ℕ, ◌+◌, length, take, drop}

-- w with the bytes xs written from index i on
unfoldable pub placed : ℕ → List ℕ → List ℕ → List ℕ
placed i xs w = take i w ++ xs ++ drop (i + length xs) w
