-- Laws of specs/Starts.antt. At the end they are put as the code of `queue_starts` meets them, over plain values. Assumes nothing.
use Rattle.std.specs.Prelude.{◌≡◌, refl, Bool, true, false, List, ℕ, suc, ◌+◌, ◌-◌, ◌*◌, ◌≤◌, ◌<◌, length}
use Rattle.std.proofs.Common.{sym, ap, ◌∙◌, true≢false, add-one, arith, eq-eqb}
use Rattle.std.proofs.Math.Decide.{dec_lt, ℕ_discrete}
use Rattle.order.specs.Log.{Queued, Entry, by_label}
use Rattle.order.proofs.Loop.{Agree, empty, push_entry, queued}
use Rattle.order.specs.Turn.{Between}
use Rattle.recorder.specs.Flag.{Flag, live_flag}
use Rattle.recorder.specs.Recorder.{start_of, bad_of, number}
use Rattle.recorder.proofs.Bad.{bad_says}
use Rattle.recorder.specs.Says.{StartSays}
use Rattle.recorder.specs.SlotGraph.{at}
use Rattle.recorder.specs.Slots.{slot_of, InRange}
use Rattle.recorder.specs.declared.Record.{Record}
use Rattle.recorder.proofs.SlotGraph.{at_start}
use Rattle.table.specs.Layout.{states_of}
use Rattle.table.specs.BlockOf.{block_of}
use Rattle.table.specs.WellFormed.{WellFormed}
use Rattle.table.specs.declared.Table.{Table}
use Rattle.table.proofs.Sound.{sound}
use Rattle.table.specs.Recording.{slots_of, graph_of}
use Rattle.table.proofs.Recording.{start_slot, start_below, made_range, made_slot, block_states, slots_few}
use Rattle.search.specs.Workspace.{origin_at, slot_at, queue_of, Kept, meeting}
use Rattle.search.proofs.Workspace.{kept_none, meeting_agrees, meeting_node, meeting_origin, meeting_keeps}
use Rattle.search.specs.Meet.{MeetAsks, MeetSays, SameRest}
use Rattle.search.proofs.MeetLaws.{MeetIfSays, where_wanted, where_not, asks_as, if_says_as, rest_same, rest_trans, meets_if}
use Rattle.search.specs.Starts.{StartsAsk, StartsSay}

-- The starts below state s are queued, and nothing else.
pub record Starting (F : Flag) (b : List ℕ) (w : List ℕ) (tail s : ℕ) : Type 0 where
  pub kept : Kept (slots_of b) w tail
  pub entries : (i : ℕ) → i < tail → Entry (graph_of F b) (queue_of (slots_of b) w) i
  -- all of them as starts
  pub origins : (i : ℕ) → i < tail → (queue_of (slots_of b) w).from i ≡ 0
  -- the label of state s's start is 2·s + 1
  pub below : (i : ℕ) → i < tail → (graph_of F b).label (slot_at (slots_of b) w i) < 2 * s
  pub dealt : (s' : ℕ) → s' < s → (block_of b).start s' ≡ true → Queued (queue_of (slots_of b) w) tail (start_slot F b s') 0

module _ (F : Flag) (b : List ℕ) (f : WellFormed b) where
  start_label : (s : ℕ) → (block_of b).start s ≡ true → (graph_of F b).label (start_slot F b s) ≡ 2 * s + 1
  start_label s h = ap (number (block_of b)) (at_start F (block_of b) (sound b f) s h) ∙ rw (eq-eqb (block_of b).n (block_of b).n refl)

  -- a start has nothing saved, so it is not bad
  start_good : (x : ℕ) → (graph_of F b).Start x → ¬ (graph_of F b).Bad x
  start_good x (s, h, e) bad =
      let B = block_of b in
      let is = ap (at B) e ∙ at_start F B (sound b f) s h in
      let p = ((bad_says B (start_of F B s)).0 (ap (bad_of B) (sym is) ∙ bad)).0 in
      omega (arith, p, (sound b f).start_in s h)

-- nothing is queued yet
pub starting_begins : (F : Flag) (b : List ℕ) (w : List ℕ) → 2 * slots_of b ≤ length w → ((x : ℕ) → x < slots_of b → origin_at w x ≡ 0)
    → Starting F b w 0 0
starting_begins F b w l h = record {
  kept = kept_none (slots_of b) w l h;
  entries = empty _ _;
  origins = λ i p. absurd (omega arith);
  below = λ i p. absurd (omega arith);
  dealt = λ s p. absurd (omega arith);
}

module _ (F : Flag) (b : List ℕ) (f : WellFormed b) (w : List ℕ) (tail s : ℕ) (g : Starting F b w tail s) where
  -- every start is queued: the first turn can begin
  pub starting_ends : s ≡ states_of b → Between (graph_of F b) (queue_of (slots_of b) w) 0 tail
  starting_ends e = record {
    log = record {
      head_le = omega arith;
      entries = g.entries;
      start_queued = λ x (s', h, d). rw d (g.dealt s' (omega (arith, e, block_states b, (sound b f).start_in s' h)) h);
      start_good = start_good F b f;
      edge_queued = λ j x l. absurd (omega arith);
      edge_good = λ j x l. absurd (omega arith);
    };
    origins = λ i l. omega (arith, g.origins i l);
  }

  -- the slot of state s's start can be met
  pub start_asks : s < states_of b → MeetAsks (slots_of b) w tail (start_slot F b s) 1
  start_asks h = record { kept = g.kept; slot_in = start_below F b s h; few = slots_few b f; origin_from = omega arith; origin_to = omega arith }

  -- state s is no start: nothing changes
  passes : (block_of b).start s ≡ false → Starting F b w tail (suc s)
  passes no_start = record {
    kept = g.kept;
    entries = g.entries;
    origins = g.origins;
    below = λ i l. omega (arith, g.below i l);
    dealt = λ s' l h. dealt s' h l (dec_lt s' s);
  }
    where
      dealt : (s' : ℕ) → (block_of b).start s' ≡ true → s' < suc s → Dec (s' < s) → Queued (queue_of (slots_of b) w) tail (start_slot F b s') 0
      dealt s' h l (yes p) = g.dealt s' p h
      dealt s' h l (no p) = let d : s' ≡ s = omega arith in absurd (true≢false (sym h ∙ ap (block_of b).start d ∙ no_start))

  module _ (is_start : (block_of b).start s ≡ true) (s_in : s < states_of b) where
    abbrev S : ℕ
    S = slots_of b

    abbrev x : ℕ
    x = start_slot F b s

    -- it was not met: all labels in the queue are below its own
    new : origin_at w x ≡ 0
    new = go (ℕ_discrete (origin_at w x) 0)
      where
        go : Dec (origin_at w x ≡ 0) → origin_at w x ≡ 0
        go (yes e) = e
        go (no e) =
            let (i, l, d) = g.kept.only x (start_below F b s s_in) (omega arith) in
            absurd (omega (arith, g.below i l, ap (graph_of F b).label d, start_label F b f s is_start))

    abbrev w⁺ : List ℕ
    w⁺ = meeting S tail x 1 w

    agrees : Agree (queue_of S w) (queue_of S w⁺) tail
    agrees = meeting_agrees S tail x 1 w g.kept (start_below F b s s_in) new (omega arith)

    node : slot_at S w⁺ tail ≡ x
    node = meeting_node S tail x 1 w g.kept (start_below F b s s_in) new (omega arith)

    origin : (queue_of S w⁺).from tail ≡ 0
    origin = ap (λ (o : ℕ). o - 1) (ap (origin_at w⁺) node ∙ meeting_origin S tail x 1 w g.kept (start_below F b s s_in) new (omega arith))

    label : (graph_of F b).label (slot_at S w⁺ tail) ≡ 2 * s + 1
    label = ap (graph_of F b).label node ∙ start_label F b f s is_start

    -- it is queued at tail
    queues : Starting F b w⁺ (suc tail) (suc s)
    queues = record {
      kept = meeting_keeps S tail x 1 w g.kept (start_below F b s s_in) new (omega arith);
      entries = push_entry agrees g.entries (record {
        start = λ z. (s, is_start, node);
        parent = λ p z. absurd (omega (arith, origin));
        edge = λ p z. absurd (omega (arith, origin));
        sorted = λ k z.
            let l : k < tail = omega arith in
            by_label (agrees.from k l ∙ g.origins k l ∙ sym origin) (omega (arith, label, ap (graph_of F b).label (agrees.node k l), g.below k l));
      });
      origins = λ i l. origins i l (dec_lt i tail);
      below = λ i l. below i l (dec_lt i tail);
      dealt = λ s' l h. dealt s' h l (dec_lt s' s);
    }
      where
        origins : (i : ℕ) → i < suc tail → Dec (i < tail) → (queue_of S w⁺).from i ≡ 0
        origins i l (yes p) = agrees.from i p ∙ g.origins i p
        origins i l (no p) = let d : i ≡ tail = omega arith in ap (queue_of S w⁺).from d ∙ origin

        below : (i : ℕ) → i < suc tail → Dec (i < tail) → (graph_of F b).label (slot_at S w⁺ i) < 2 * suc s
        below i l (yes p) = omega (arith, g.below i p, ap (graph_of F b).label (agrees.node i p))
        below i l (no p) = let d : i ≡ tail = omega arith in omega (arith, label, ap (λ (i : ℕ). (graph_of F b).label (slot_at S w⁺ i)) d)

        dealt : (s' : ℕ) → (block_of b).start s' ≡ true → s' < suc s → Dec (s' < s) → Queued (queue_of S w⁺) (suc tail) (start_slot F b s') 0
        dealt s' h l (yes p) = queued agrees (g.dealt s' p h)
        dealt s' h l (no p) =
            let d : s ≡ s' = omega arith in
            record { place = tail; place_lt = omega arith; is_node = node ∙ ap (start_slot F b) d; origin_le = omega (arith, origin) }

  -- state s is dealt with
  pub starting_on : (r : ℕ) (w' : List ℕ) → s < states_of b → MeetIfSays ((block_of b).start s) (slots_of b) w tail (start_slot F b s) 1 r w' → Starting F b w' r (s + 1)
  starting_on r w' s_in m = rw (add-one s) (go ((block_of b).start s) refl)
    where
      go : (u : Bool) → (block_of b).start s ≡ u → Starting F b w' r (suc s)
      go true e =
          let (p, q) = (m.is_wanted e).is_new (new e s_in) in
          rw (p, q, add-one tail) (queues e s_in)
      go false e = let (p, q) = m.is_not e in rw (p, q) (passes e)

-- ---- along the code

-- At state s. w₀ is the workspace as it came.
pub record Queueing (b w₀ w : List ℕ) (tail s : ℕ) : Type 0 where
  pub starting : Starting live_flag b w tail s
  -- the words past the first 2S are as they came
  pub same : SameRest (slots_of b) w₀ w

module _ {b : List ℕ} {t : Table} {S : ℕ} {w₀ : List ℕ} (a : StartsAsk b t S w₀) where
  pub queueing_begins : Queueing b w₀ w₀ 0 0
  queueing_begins = record { starting = starting_begins live_flag b w₀ (rw (← a.slots_are) a.room) (rw (← a.slots_are) a.fresh); same = rest_same _ _ }

  module _ {w : List ℕ} {tail s : ℕ} (g : Queueing b w₀ w tail s) where
    pub queueing_ends : t.states ≤ s → s ≤ t.states → StartsSay live_flag b S w₀ tail w
    queueing_ends h k =
        let e : s ≡ states_of b = omega (arith, a.laid.states_are) in
        rw a.slots_are (record { kept = g.starting.kept; same = g.same; between = starting_ends live_flag b a.formed _ _ _ g.starting e })

    module _ (h : s < t.states) where
      s_in : s < states_of b
      s_in = omega (arith, a.laid.states_are)

      asks : MeetAsks (slots_of b) w tail (start_slot live_flag b s) 1
      asks = start_asks live_flag b a.formed _ _ _ g.starting s_in

      queued_on : {tail' : ℕ} {w' : List ℕ} → MeetIfSays ((block_of b).start s) (slots_of b) w tail (start_slot live_flag b s) 1 tail' w' → Queueing b w₀ w' tail' (s + 1)
      queued_on m = record { starting = starting_on live_flag b a.formed _ _ _ g.starting _ _ s_in m; same = rest_trans g.same (meets_if asks m).same }

      -- state s is no start
      pub queueing_passes : {u : Bool} → u ≡ (block_of b).start s → u ≡ false → Queueing b w₀ w tail (s + 1)
      queueing_passes is e = queued_on (where_not (sym is ∙ e))

      -- it is one, its record is r, and r has the slot x
      module _ {r : Record} (says : StartSays s t.states r) where
        r_is : r ≡ start_of live_flag (block_of b) s
        r_is = says (block_of b) (block_states b ∙ sym a.laid.states_are)

        pub record_fits : (t.states ≤ 64) × (t.sets ≤ 8) × InRange t.states t.sets r
        record_fits = made_range live_flag _ _ a.laid _ _ r_is h

        module _ {x : ℕ} (d : x ≡ slot_of t.states t.sets r) where
          slot_is : x ≡ start_slot live_flag b s
          slot_is = made_slot live_flag _ _ a.laid _ _ r_is _ d

          pub slot_fits : MeetAsks S w tail x 1
          slot_fits = asks_as a.slots_are slot_is asks

          pub queueing_on : {u : Bool} {tail' : ℕ} {w' : List ℕ} → u ≡ (block_of b).start s → u ≡ true → MeetSays S w tail x 1 tail' w' → Queueing b w₀ w' tail' (s + 1)
          queueing_on is e m = queued_on (if_says_as is a.slots_are slot_is (where_wanted e m))
