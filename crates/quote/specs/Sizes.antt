-- The sizes of the recorded table. docs/RULES.md, "Translated table": S = n(n+1)·2^(m+1) slots, E = e(n+2)·2^(m+1) edges, 32 + 5S + 4E bytes. S is
-- the recorder's `slot_count`. proofs/Sizes.antt has the law that says where n + 2 comes from. Assumes nothing.
use Rattle.std.specs.Prelude.{ℕ, ◌+◌, ◌*◌, ◌^◌}
use Rattle.table.specs.Layout.{length_of}

-- E, for n states, e edges and m sets
unfoldable pub edge_count : ℕ → ℕ → ℕ → ℕ
edge_count n e m = e * (n + 2) * 2 ^ (m + 1)

-- the translated length: that of a table of S states and E edges
abbrev pub translated_length : ℕ → ℕ → ℕ
translated_length S E = length_of S E
