-- The recorded table of an accepted one: its slots, the slot graph, and what a slot leads to. docs/RULES.md, "The recorder". proofs/Recording.antt
-- has the laws that what a step gives is in range and has the slot that the rules say. Over any flag. Assumes nothing.
use Rattle.std.specs.Prelude.{Bool, List, ℕ, suc}
use Rattle.order.specs.Graph.{Graph}
use Rattle.recorder.specs.Flag.{Flag}
use Rattle.recorder.specs.Recorder.{step_of}
use Rattle.recorder.specs.Slots.{slot_count}
use Rattle.recorder.specs.SlotGraph.{slot_graph, at, slot}
use Rattle.table.specs.Layout.{states_of, sets_of, row_start}
use Rattle.table.specs.BlockOf.{block_of}

-- how many slots a table has
abbrev pub slots_of : List ℕ → ℕ
slots_of b = slot_count (states_of b) (sets_of b)

-- the slot graph of a table, by the flag F
abbrev pub graph_of : Flag → List ℕ → Graph
graph_of F b = slot_graph F (block_of b)

-- what slot x leads to along an edge to s', with a save wish, by the flag F
abbrev pub next_of : Flag → List ℕ → ℕ → ℕ → Bool → ℕ
next_of F b x s' wish = slot (block_of b) (step_of F (block_of b) (at (block_of b) x) s' wish)

-- the state of slot x, and where its row starts and ends
abbrev pub state_of : List ℕ → ℕ → ℕ
state_of b x = (at (block_of b) x).s

abbrev pub from_of : List ℕ → ℕ → ℕ
from_of b x = row_start b (state_of b x)

abbrev pub to_of : List ℕ → ℕ → ℕ
to_of b x = row_start b (suc (state_of b x))
