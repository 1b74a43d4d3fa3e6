-- One target of a row: `Turned` says where the turn of head stands at index i of its row, and the laws say what meeting the slots along target i
-- asks and gives. Over any flag. Assumes nothing.
use Rattle.std.specs.Prelude.{◌≡◌, refl, Bool, true, false, List, ℕ, suc, ◌+◌, ◌≤◌, ◌<◌, eqb}
use Rattle.std.proofs.Common.{sym, ap, ◌∙◌, arith, eqb-true}
use Rattle.std.proofs.lemmas.Bool.{eqb-false}
use Rattle.order.specs.Turn.{Between}
use Rattle.recorder.specs.Flag.{Flag}
use Rattle.recorder.specs.Recorder.{step_of, bad_of}
use Rattle.recorder.proofs.Bad.{bad_says}
use Rattle.recorder.specs.SlotGraph.{at}
use Rattle.recorder.proofs.SlotGraph.{at_next, edges_apart}
use Rattle.table.specs.Layout.{states_of, target}
use Rattle.table.specs.BlockOf.{block_of}
use Rattle.table.specs.WellFormed.{WellFormed}
use Rattle.table.proofs.Sound.{sound}
use Rattle.search.specs.Workspace.{slot_at, queue_of, Kept}
use Rattle.search.proofs.Workspace.{kept_le}
use Rattle.search.specs.Meet.{MeetAsks, MeetSays}
use Rattle.search.proofs.MeetLaws.{MeetIfSays, Met, meets, meets_if, met_trans, meet_turns}
use Rattle.table.proofs.Row.{row_some, row_edge}
use Rattle.table.specs.Recording.{slots_of, graph_of, next_of, state_of, from_of, to_of}
use Rattle.table.proofs.Recording.{block_states, Unsaved, slots_few, state_in, next_in}
use Rattle.search.proofs.Floor.{floor_at, Upto, row_begins, row_next, row_other, row_done, row_done_saved, row_ends}
use Rattle.search.specs.Scan.{Stopped}

-- In the turn of head, whose slot is x, at index i of the row of x's state.
pub record Turned (F : Flag) (b : List ℕ) (w : List ℕ) (head tail x i : ℕ) : Type 0 where
  pub kept : Kept (slots_of b) w tail
  pub slot_is : slot_at (slots_of b) w head ≡ x
  pub from : from_of b x ≤ i
  pub to : i ≤ to_of b x
  -- all labels of the row's targets before i are dealt with
  pub upto : Upto F b (queue_of (slots_of b) w) head tail (floor_at b (from_of b x) i)

-- with nothing saved afterwards a slot is not bad
plain_good : (F : Flag) (b : List ℕ) (f : WellFormed b) (x s' : ℕ) → (block_of b).edge (state_of b x) s' ≡ true → Unsaved b x → ¬ (graph_of F b).Bad (next_of F b x s' false)
plain_good F b f x s' e u h =
    let B = block_of b in
    let p = ((bad_says B (step_of F B (at B x) s' false)).0 (ap (bad_of B) (sym (at_next F B (sound b f) x s' false e)) ∙ h)).0 in
    omega (arith, p, u, block_states b, ((sound b f).edge_in _ _ e).1)

module _ (F : Flag) (b : List ℕ) (f : WellFormed b) where
  -- the row of head begins
  pub turned_begins : (w : List ℕ) (head tail : ℕ) → Kept (slots_of b) w tail → Between (graph_of F b) (queue_of (slots_of b) w) head tail → head < tail
      → Turned F b w head tail (slot_at (slots_of b) w head) (from_of b (slot_at (slots_of b) w head))
  turned_begins w head tail k t h =
      let x = slot_at (slots_of b) w head in
      record {
        kept = k;
        slot_is = refl;
        from = omega arith;
        to = omega (arith, row_some b f (state_of b x) (state_in b x (k.below head h)));
        upto = row_begins F b f (queue_of (slots_of b) w) head tail x refl t h;
      }

module _ (F : Flag) (b : List ℕ) (f : WellFormed b) (w : List ℕ) (head tail x i : ℕ) (t : Turned F b w head tail x i) where
  slots_in : x < slots_of b
  slots_in = rw t.slot_is at (t.kept.below head t.upto.next)

  pub head_state : state_of b x < states_of b
  head_state = state_in b x slots_in

  -- the row ends
  pub turned_ends : i ≡ to_of b x → Between (graph_of F b) (queue_of (slots_of b) w) (suc head) tail
  turned_ends e = row_ends F b f (queue_of (slots_of b) w) head tail x t.slot_is head_state (rw (← e) t.upto)

  module _ (g : i < to_of b x) where
    pub edge_there : (block_of b).edge (state_of b x) (target b i) ≡ true
    edge_there = row_edge b f (state_of b x) head_state i t.from g

    -- both slots along target i can be met
    pub first_asks : MeetAsks (slots_of b) w tail (next_of F b x (target b i) true) (head + 2)
    first_asks = record {
      kept = t.kept;
      slot_in = next_in F b f x (target b i) true edge_there;
      few = slots_few b f;
      origin_from = omega arith;
      origin_to = omega (arith, t.upto.next, kept_le (slots_of b) w tail t.kept);
    }

    -- the turn has come to the first of them
    first_next : Upto F b (queue_of (slots_of b) w) head tail ((graph_of F b).label (next_of F b x (target b i) true))
    first_next = row_next F b f (queue_of (slots_of b) w) head tail x t.slot_is head_state i t.from g t.upto

    first_edge : (graph_of F b).Edge (slot_at (slots_of b) w head) (next_of F b x (target b i) true)
    first_edge = rw t.slot_is (target b i, true, edge_there, refl)

    -- the first is bad: the scan stops
    pub turned_stops : (graph_of F b).Bad (next_of F b x (target b i) true) → Stopped F b (slots_of b) w head (next_of F b x (target b i) true)
    turned_stops h = record { tail = tail; kept = t.kept; turning = first_next; edge = first_edge; bad = h }

    module _ (good : ¬ (graph_of F b).Bad (next_of F b x (target b i) true)) (r : ℕ) (w' : List ℕ)
        (m : MeetSays (slots_of b) w tail (next_of F b x (target b i) true) (head + 2) r w') where
      pub other_asks : MeetAsks (slots_of b) w' r (next_of F b x (target b i) false) (head + 2)
      other_asks =
          let k = meets first_asks m in
          record {
            kept = k.kept;
            slot_in = next_in F b f x (target b i) false edge_there;
            few = slots_few b f;
            origin_from = omega arith;
            origin_to = omega (arith, t.upto.next, kept_le (slots_of b) w tail t.kept);
          }

      apart : (x y z : ℕ) → (graph_of F b).Edge x y → (graph_of F b).Edge x z → (graph_of F b).label y ≡ (graph_of F b).label z → y ≡ z
      apart = edges_apart F (block_of b) (sound b f)

      -- the slot of head stays
      slot_stays : slot_at (slots_of b) w' head ≡ x
      slot_stays = (meets first_asks m).stays head t.upto.next ∙ t.slot_is

      first_dealt : Upto F b (queue_of (slots_of b) w') head r (suc ((graph_of F b).label (next_of F b x (target b i) true)))
      first_dealt = meet_turns (graph_of F b) apart (next_of F b x (target b i) true) r w' first_asks m first_next first_edge good

      -- the other slot is met too, where nothing is saved
      both_dealt : (u : Bool) → eqb (at (block_of b) x).t (states_of b) ≡ u → (r' : ℕ) (w'' : List ℕ)
          → MeetIfSays u (slots_of b) w' r (next_of F b x (target b i) false) (head + 2) r' w'' → Upto F b (queue_of (slots_of b) w'') head r' (floor_at b (from_of b x) (i + 1))
      both_dealt true e r' w'' m' =
          let u : Unsaved b x = eqb-true _ _ e in
          let t₁ = row_other F b f (queue_of (slots_of b) w') head r x slot_stays head_state i t.from g u first_dealt in
          let d : (graph_of F b).Edge (slot_at (slots_of b) w' head) (next_of F b x (target b i) false) = rw slot_stays (target b i, false, edge_there, refl) in
          let t₂ = meet_turns (graph_of F b) apart (next_of F b x (target b i) false) r' w'' other_asks (m'.is_wanted refl) t₁ d (plain_good F b f x (target b i) edge_there u) in
          row_done F b f (queue_of (slots_of b) w'') head r' x ((meets other_asks (m'.is_wanted refl)).stays head first_dealt.next ∙ slot_stays) head_state i t.from g u t₂
      both_dealt false e r' w'' m' =
          let (p, q) = m'.is_not refl in
          rw (p, q) (row_done_saved F b f (queue_of (slots_of b) w') head r x slot_stays head_state i t.from g (eqb-false _ _ e) first_dealt)

      -- target i is done
      pub turned_on : (r' : ℕ) (w'' : List ℕ) → MeetIfSays (eqb (at (block_of b) x).t (states_of b)) (slots_of b) w' r (next_of F b x (target b i) false) (head + 2) r' w''
          → Turned F b w'' head r' x (i + 1) × Met (slots_of b) w tail r' w''
      turned_on r' w'' m' =
          let k = met_trans (meets first_asks m) (meets_if other_asks m') in (
            record {
              kept = k.kept;
              slot_is = k.stays head t.upto.next ∙ t.slot_is;
              from = omega (arith, t.from);
              to = omega arith;
              upto = both_dealt _ refl r' w'' m';
            },
            k,
          )
