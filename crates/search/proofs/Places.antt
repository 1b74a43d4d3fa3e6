-- What is known at the places of the scan's code, from what its steps answered: of the slot x that is taken from the queue, and of target i of its row.
-- Over plain values; the scan's answers cite it. Assumes nothing.
use Rattle.std.specs.Prelude.{◌≡◌, ◌≢◌, Bool, true, false, List, ℕ, suc, ◌+◌, ◌<◌, ◌≤◌, eqb, get_or}
use Rattle.std.proofs.Common.{sym, ap, ap₂, ◌∙◌, true≢false, arith, add-one, eq-eqb, ne_eqb}
use Rattle.recorder.specs.Flag.{live_flag}
use Rattle.recorder.specs.Recorder.{step_of, bad_of}
use Rattle.recorder.specs.Slots.{slot_of, record_of_slot, InRange}
use Rattle.recorder.specs.SlotGraph.{at}
use Rattle.recorder.proofs.SlotGraph.{at_next}
use Rattle.recorder.specs.Says.{Leaves, StepSays, BadSays}
use Rattle.recorder.specs.declared.Record.{Record}
use Rattle.table.specs.Inside.{RowInside, TargetInside, MarkInside}
use Rattle.table.proofs.Inside.{row_inside, target_inside, mark_inside}
use Rattle.table.specs.Layout.{states_of, row_start, target}
use Rattle.table.specs.BlockOf.{block_of}
use Rattle.table.specs.LaidOut.{LaidOut}
use Rattle.table.specs.WellFormed.{WellFormed}
use Rattle.table.specs.declared.Table.{Table}
use Rattle.table.specs.Recording.{slots_of, graph_of, next_of, state_of, from_of, to_of}
use Rattle.table.proofs.Recording.{block_states, block_sets, slots_few, state_in, step_slot, step_range}
use Rattle.table.proofs.Row.{row_to_lem}
use Rattle.table.proofs.Sound.{sound}
use Rattle.search.specs.Workspace.{slot_at}
use Rattle.search.proofs.Workspace.{kept_le}
use Rattle.search.specs.Meet.{MeetAsks, MeetSays}
use Rattle.search.proofs.MeetLaws.{MeetIfSays, Met, where_wanted, where_not, asks_as, says_as, if_says_as, rest_same, rest_trans}
use Rattle.search.specs.Scan.{ScanAsks, Stopped}
use Rattle.search.proofs.Scanning.{Waiting, Within}
use Rattle.search.proofs.Follow.{Turned, turned_begins, turned_ends, head_state, edge_there, first_asks, other_asks, turned_stops, turned_on}

-- ---- the queue holds the starts
pub waiting_begins : {bytes work₀ : List ℕ} {t : Table} {slots queued : ℕ} → ScanAsks live_flag bytes t slots work₀ queued
    → Waiting live_flag bytes slots work₀ work₀ 0 queued
waiting_begins asks = record {
  slots_are = asks.slots_are;
  kept = rw (← asks.slots_are) asks.kept;
  same = rest_same _ _;
  tail_to = omega (arith, kept_le _ _ _ asks.kept, asks.slots_are);
  few = slots_few _ asks.formed;
  between = rw (← asks.slots_are) asks.between;
}

-- ---- the slot that stands at head in the queue
module _ {bytes work₀ : List ℕ} {slots : ℕ} {work : List ℕ} {head tail : ℕ} (v : Waiting live_flag bytes slots work₀ work head tail) (h : head < tail) where
  -- the queue is no longer than there are slots
  pub head_in : head < slots
  head_in = omega (arith, v.tail_to, v.slots_are)

  pub x_slot : slot_at (slots_of bytes) work head ≡ get_or work (slots + head) 0
  x_slot = ap (λ (S : ℕ). get_or work (S + head) 0) (sym v.slots_are)

  pub x_in : get_or work (slots + head) 0 < slots_of bytes
  x_in = rw x_slot at (v.kept.below head h)

module _ {bytes work₀ : List ℕ} {t : Table} {slots₀ queued : ℕ} (asks : ScanAsks live_flag bytes t slots₀ work₀ queued) where
  -- ---- the record r that is taken from slot x
  module _ (x : ℕ) {r : Record} (is : r ≡ record_of_slot t.states t.sets x) where
    pub r_is : r ≡ at (block_of bytes) x
    unfolding block_of
    r_is = is ∙ ap₂ (λ (n m : ℕ). record_of_slot n m x) asks.laid.states_are asks.laid.sets_are

    pub s_in : x < slots_of bytes → r.s < t.states
    s_in l = omega (arith, ap (λ (r : Record). r.s) r_is, asks.laid.states_are, state_in bytes x l)

    -- where the row of its state starts and ends
    pub from_is : {y : ℕ} → y ≡ row_start bytes r.s → y ≡ from_of bytes x
    from_is e = e ∙ ap (λ (r : Record). row_start bytes r.s) r_is

    pub to_is : {y : ℕ} → y ≡ row_start bytes (r.s + 1) → y ≡ to_of bytes x
    to_is e = e ∙ ap (row_start bytes) (add-one r.s) ∙ ap (λ (r : Record). row_start bytes (suc r.s)) r_is

  -- ---- it is taken from the slot at head
  module _ {slots : ℕ} {work : List ℕ} {head tail : ℕ} (v : Waiting live_flag bytes slots work₀ work head tail) (h : head < tail)
      {r : Record} (is : r ≡ record_of_slot t.states t.sets (get_or work (slots + head) 0)) where
    pub state_small : r.s < t.states
    state_small = s_in _ is (x_in v h)

    -- the marks and the row of its state stand in the table
    pub marks_inside : MarkInside bytes t r.s
    marks_inside = mark_inside _ _ asks.laid _ state_small

    pub from_inside : RowInside bytes r.s
    from_inside = row_inside _ _ asks.laid _ (omega (arith, state_small))

    pub to_inside : RowInside bytes (r.s + 1)
    to_inside = row_inside _ _ asks.laid _ (omega (arith, state_small))

    -- once they are read, the row begins
    pub row_begun : {goal : Bool} {fair from to : ℕ} → goal ≡ (block_of bytes).goal r.s → fair ≡ (block_of bytes).fair r.s → from ≡ row_start bytes r.s
        → to ≡ row_start bytes (r.s + 1) → Within live_flag bytes t slots work work head tail (get_or work (slots + head) 0) r goal fair to from
    row_begun g f from to = record {
      read = record {
        formed = asks.formed;
        laid = asks.laid;
        slots_are = v.slots_are;
        r_is = r_is _ is;
        leaves = record { states = block_states bytes ∙ sym asks.laid.states_are; goal_is = sym g; fair_is = sym f };
        to_is = to_is _ is to;
      };
      turned = rw (from_is _ is from, ← x_slot v h) (turned_begins live_flag bytes asks.formed _ _ _ v.kept v.between h);
      same = rest_same _ _;
    }

-- ---- Within the row of the slot x, whose record is r, at target i: what the code read of the table, and where the turn stands.
pub record InRow (bytes : List ℕ) (t : Table) (slots head x : ℕ) (r : Record) (goal : Bool) (fair : ℕ) (work : List ℕ) (tail i next : ℕ) : Type 0 where
  pub formed : WellFormed bytes
  pub laid : LaidOut bytes t
  pub slots_are : slots ≡ slots_of bytes
  pub r_is : r ≡ at (block_of bytes) x
  pub leaves : Leaves (block_of bytes) r t.states goal fair
  pub turned : Turned live_flag bytes work head tail x i
  pub below : i < to_of bytes x
  pub next_is : next ≡ target bytes i

module _ {bytes : List ℕ} {t : Table} {slots head x : ℕ} {r : Record} {goal : Bool} {fair : ℕ} {work : List ℕ} {tail i next : ℕ}
    (k : InRow bytes t slots head x r goal fair work tail i next) where
  edge_at : (block_of bytes).edge (state_of bytes x) (target bytes i) ≡ true
  edge_at = edge_there live_flag _ k.formed _ _ _ _ _ k.turned k.below

  -- a step of the code is the rules' step from x to target i
  step_is : (wish : Bool) {q : Record} → StepSays r t.states goal fair next wish q
      → q ≡ step_of live_flag (block_of bytes) (at (block_of bytes) x) (target bytes i) wish
  step_is wish says = says _ k.leaves ∙ ap₂ (λ (r : Record) (s : ℕ). step_of live_flag (block_of bytes) r s wish) k.r_is k.next_is

  -- so it is in range, and its slot is that of the rules
  pub step_fits : (wish : Bool) {q : Record} → StepSays r t.states goal fair next wish q → (t.states ≤ 64) × (t.sets ≤ 8) × InRange t.states t.sets q
  step_fits wish says = step_range live_flag _ _ k.laid _ _ wish _ (step_is wish says) k.formed edge_at

  slot_is : (wish : Bool) {q : Record} {y : ℕ} → StepSays r t.states goal fair next wish q → y ≡ slot_of t.states t.sets q
      → y ≡ next_of live_flag bytes x (target bytes i) wish
  slot_is wish says d = step_slot live_flag _ _ k.laid _ _ wish _ (step_is wish says) _ d

  -- ---- the record q of the step that saves
  module _ {q : Record} (says : StepSays r t.states goal fair next true q) where
    -- the test tells whether its slot is bad
    bad_is : {b : Bool} → BadSays q t.sets b → b ≡ bad_of (block_of bytes) (at (block_of bytes) (next_of live_flag bytes x (target bytes i) true))
    bad_is test =
        test (block_of bytes) (block_sets bytes ∙ sym k.laid.sets_are)
        ∙ ap (bad_of (block_of bytes)) (step_is true says ∙ sym (at_next live_flag (block_of bytes) (sound bytes k.formed) x (target bytes i) true edge_at))

    good : {b : Bool} → BadSays q t.sets b → b ≡ false → ¬ (graph_of live_flag bytes).Bad (next_of live_flag bytes x (target bytes i) true)
    good test e h = true≢false (sym h ∙ sym (bad_is test) ∙ e)

    -- where it is, the scan stops
    pub stops : {b : Bool} → BadSays q t.sets b → b ≡ true → Stopped live_flag bytes (slots_of bytes) work head (next_of live_flag bytes x (target bytes i) true)
    stops test e = turned_stops live_flag _ k.formed _ _ _ _ _ k.turned k.below (sym (bad_is test) ∙ e)

    -- ---- its slot y
    module _ {y : ℕ} (d : y ≡ slot_of t.states t.sets q) where
      pub y_is : y ≡ next_of live_flag bytes x (target bytes i) true
      y_is = slot_is true says d

      -- which is one of the slots
      pub y_in : next_of live_flag bytes x (target bytes i) true < slots_of bytes
      y_in = (first_asks live_flag _ k.formed _ _ _ _ _ k.turned k.below).slot_in

      pub first_fits : MeetAsks slots work tail y (head + 2)
      first_fits = asks_as k.slots_are y_is (first_asks live_flag _ k.formed _ _ _ _ _ k.turned k.below)

      -- ---- where it is not bad, it is met, and then the slot of the step that does not save
      module _ {b : Bool} {a : ℕ} {w : List ℕ} (test : BadSays q t.sets b) (e : b ≡ false) (m : MeetSays slots work tail y (head + 2) a w) where
        met : MeetSays (slots_of bytes) work tail (next_of live_flag bytes x (target bytes i) true) (head + 2) a w
        met = says_as k.slots_are y_is m

        -- it is met where nothing is saved: target i is done
        both_met : {a' : ℕ} {w' : List ℕ}
            → MeetIfSays (eqb (at (block_of bytes) x).t (states_of bytes)) (slots_of bytes) w a (next_of live_flag bytes x (target bytes i) false) (head + 2) a' w'
            → Turned live_flag bytes w' head a' x (i + 1) × Met (slots_of bytes) work tail a' w'
        both_met m' = turned_on live_flag _ k.formed _ _ _ _ _ k.turned k.below (good test e) _ _ met _ _ m'

        unsaved_is : eqb r.t t.states ≡ eqb (at (block_of bytes) x).t (states_of bytes)
        unsaved_is = ap₂ (λ (r : Record) (n : ℕ). eqb r.t n) k.r_is k.laid.states_are

        pub done_saved : r.t ≢ t.states → Turned live_flag bytes w head a x (i + 1) × Met (slots_of bytes) work tail a w
        done_saved h = both_met (where_not (sym unsaved_is ∙ ne_eqb _ _ h))

        module _ {q' : Record} {z : ℕ} (says' : StepSays r t.states goal fair next false q') (d' : z ≡ slot_of t.states t.sets q') where
          pub other_fits : MeetAsks slots w a z (head + 2)
          other_fits = asks_as k.slots_are (slot_is false says' d') (other_asks live_flag _ k.formed _ _ _ _ _ k.turned k.below (good test e) _ _ met)

          pub done : {a' : ℕ} {w' : List ℕ} → MeetIfSays (eqb r.t t.states) slots w a z (head + 2) a' w'
              → Turned live_flag bytes w' head a' x (i + 1) × Met (slots_of bytes) work tail a' w'
          done m' = both_met (if_says_as unsaved_is k.slots_are (slot_is false says' d') m')

          pub done_unsaved : r.t ≡ t.states → {a' : ℕ} {w' : List ℕ} → MeetSays slots w a z (head + 2) a' w'
              → Turned live_flag bytes w' head a' x (i + 1) × Met (slots_of bytes) work tail a' w'
          done_unsaved n m' = done (where_wanted (eq-eqb _ _ n) m')

-- ---- along the row
module _ {bytes : List ℕ} {t : Table} {slots : ℕ} {w₀ work : List ℕ} {head tail x : ℕ} {r : Record} {goal : Bool} {fair to i : ℕ}
    (k : Within live_flag bytes t slots w₀ work head tail x r goal fair to i) where
  -- at its end the turn ends
  pub waiting_goes_on : {slots₀ : ℕ} {u : List ℕ} {tail₀ : ℕ} → Waiting live_flag bytes slots₀ u w₀ head tail₀ → to ≤ i → Waiting live_flag bytes slots u work (head + 1) tail
  waiting_goes_on v l = record {
    slots_are = k.read.slots_are;
    kept = k.turned.kept;
    same = rest_trans v.same k.same;
    tail_to = kept_le _ _ _ k.turned.kept;
    few = v.few;
    between = rw (add-one head) (turned_ends live_flag _ k.read.formed _ _ _ _ _ k.turned (omega (arith, k.read.to_is, k.turned.to)));
  }

  -- once target i is done, the row goes on
  pub row_goes_on : {a : ℕ} {w : List ℕ} → Turned live_flag bytes w head a x (i + 1) × Met (slots_of bytes) work tail a w
      → Within live_flag bytes t slots w₀ w head a x r goal fair to (i + 1)
  row_goes_on (d, m) = record { read = k.read; turned = d; same = rest_trans k.same m.same }

  module _ (l : i < to) where
    i_below : i < to_of bytes x
    i_below = omega (arith, k.read.to_is)

    -- target i stands in the table
    pub i_in : i < t.edges
    i_in =
        let e = row_to_lem bytes k.read.formed (state_of bytes x) (head_state live_flag _ k.read.formed _ _ _ _ _ k.turned) in
        omega (arith, i_below, e, k.read.laid.edges_are)

    pub next_inside : TargetInside bytes t i
    next_inside = target_inside _ _ k.read.laid _ i_in

    module _ {next : ℕ} (is : next ≡ target bytes i) where
      pub in_row : InRow bytes t slots head x r goal fair work tail i next
      in_row = record {
        formed = k.read.formed;
        laid = k.read.laid;
        slots_are = k.read.slots_are;
        r_is = k.read.r_is;
        leaves = k.read.leaves;
        turned = k.turned;
        below = i_below;
        next_is = is;
      }
