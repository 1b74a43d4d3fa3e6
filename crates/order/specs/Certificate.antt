-- An entry of a queue, as a list of entries has it. proofs/Certificate.antt has the test, by computation, that such a list is the queue of a
-- breadth-first search, and what it proves of the graph. Assumes nothing.
use Rattle.std.specs.Prelude.{ℕ}

-- an entry of a queue: its node, and its origin
abbrev pub Item : Type 0
Item = ℕ × ℕ
