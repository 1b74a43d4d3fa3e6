-- The graph that the search walks: its nodes are slot numbers, its edges the steps of their records, and a node's label the record's number in a tie.
-- docs/RULES.md, "The recorder". proofs/SlotGraph.antt has that the word of a run says where the run ends, since the labels tell apart what one slot
-- leads to. Assumes nothing.
use Rattle.std.specs.Prelude.{◌≡◌, Bool, true, ℕ}
use Rattle.order.specs.Graph.{Graph}
use Rattle.recorder.specs.Block.{Block}
use Rattle.recorder.specs.Flag.{Flag}
use Rattle.recorder.specs.Recorder.{start_of, step_of, bad_of, number}
use Rattle.recorder.specs.Slots.{slot_of, record_of_slot}
use Rattle.recorder.specs.declared.Record.{Record}

module _ (B : Block) where
  -- the record of slot x, and the slot of record r
  abbrev pub at : ℕ → Record
  at x = record_of_slot B.n B.m x

  abbrev pub slot : Record → ℕ
  slot r = slot_of B.n B.m r

abbrev pub slot_graph : Flag → Block → Graph
slot_graph F B = record {
  Start = λ x. (s : ℕ) × (B.start s ≡ true) × (x ≡ slot B (start_of F B s));
  Edge = λ x y. (s' : ℕ) × (wish : Bool) × (B.edge (at B x).s s' ≡ true) × (y ≡ slot B (step_of F B (at B x) s' wish));
  Bad = λ x. bad_of B (at B x) ≡ true;
  label = λ x. number B (at B x);
}
