-- Laws of specs/Asks.antt. Assumes nothing.
use Rattle.std.specs.Prelude.{◌≡◌, refl, Bool, true, false, cond, ◌&&◌, List, ℕ, suc, ◌+◌, ◌-◌, ◌*◌, ◌^◌, ◌≤◌, ◌<◌, eqb, length}
use Rattle.std.proofs.Math.Path.{sym, ap, ap₂}
use Rattle.std.proofs.Common.{◌∙◌, add-one, arith}
use mir.Val.{bool_byte}
use Rattle.recorder.specs.Flag.{Flag, live_flag}
use Rattle.recorder.specs.Recorder.{start_of, bad_of, unsaved}
use Rattle.recorder.specs.Slots.{slot_count, slot_of, record_of_slot, bit_of, InRange}
use Rattle.recorder.proofs.Slots.{slot_of_record, record_of_slot_lem, slot_below, saved_in, bits_in}
use Rattle.recorder.specs.SlotGraph.{at}
use Rattle.recorder.specs.Says.{StartSays, BadSays}
use Rattle.recorder.specs.declared.Record.{Record}
use Rattle.quote.proofs.Sizes.{edges_small}
use Rattle.table.specs.BlockOf.{block_of}
use Rattle.table.specs.Layout.{states_of, edges_of, sets_of, row_start}
use Rattle.table.proofs.Row.{row_some, row_to_lem}
use Rattle.table.specs.Recording.{slots_of, state_of, from_of, to_of}
use Rattle.table.proofs.Recording.{slots_few, state_in, block_states, block_sets, start_slot, made_range, made_slot}
use Rattle.table.specs.declared.Table.{Table}
use Rattle.translation.proofs.Counts.{length_row, starts_to}
use Rattle.translation.specs.File.{row_of, start_of_row, is_start, slot_mark}
use Rattle.translation.specs.Asks.{Asks}

-- r is the record of slot p
abbrev pub RecordAt : Table → ℕ → Record → Type 0
RecordAt t p r = r ≡ record_of_slot t.states t.sets p

-- what a loop over the slots holds when slot p comes: the record of p, and how far its section is written
pub record Carries (t : Table) (p : ℕ) (r : Record) (Section : Type 0) : Type 0 where
  pub here : RecordAt t p r
  pub written : Section

-- the slots are few, and no row starts far
pub slots_small : {b : List ℕ} {t : Table} {S : ℕ} → Asks b t → S ≡ slots_of b → S < 4294967295
slots_small {b} a e = omega (arith, slots_few b a.formed)

pub starts_small : (R : Flag) {b : List ℕ} {t : Table} {S p : ℕ} → Asks b t → S ≡ slots_of b → p ≤ S → start_of_row R b p ≤ 1024 * 66 * 2 ^ 9
starts_small R {b} {p = p} a e h =
    let f = a.formed in
    omega (arith, starts_to R b f p (omega arith), edges_small (states_of b) (edges_of b) (sets_of b) f.states_to f.edges_to (omega (arith, f.sets_to)))

-- the machine's number of a bool is the rule's
pub byte_is_bit : (u : Bool) → bool_byte u ≡ bit_of u
byte_is_bit true = refl
byte_is_bit false = refl

pub byte_small : (u : Bool) → bool_byte u ≤ 1
byte_small true = omega arith
byte_small false = omega arith

-- a record in range is that of its slot, which is one of the table's
pub at_its_slot : {b : List ℕ} {t : Table} {p : ℕ} {r : Record} → Asks b t → InRange t.states t.sets r → p ≡ slot_of t.states t.sets r → (p < slots_of b) × RecordAt t p r
at_its_slot {t = t} {r = r} a h e = (
  omega (arith, slot_below t.states t.sets r h, ap₂ slot_count a.laid.states_are a.laid.sets_are),
  rw e (sym (record_of_slot_lem t.states t.sets r h.t_in h.v_in)),
)

-- slot p of S and its record r
module _ {b : List ℕ} {t : Table} {S p : ℕ} {r : Record} (a : Asks b t) (slots_are : S ≡ slots_of b) (h : (p < S) × RecordAt t p r) where
  pub slot_in : p < slots_of b
  slot_in = omega arith

  pub record_is : r ≡ at (block_of b) p
  unfolding block_of
  record_is = h.1 ∙ ap₂ (λ (n m : ℕ). record_of_slot n m p) a.laid.states_are a.laid.sets_are

  pub state_below : r.s < t.states
  state_below = omega (arith, ap (λ (r : Record). r.s) record_is, a.laid.states_are, state_in b p slot_in)

  pub record_range : (t.states ≤ 64) × (t.sets ≤ 8) × InRange t.states t.sets r
  record_range = (
    a.laid.states_to,
    omega (arith, a.laid.sets_to),
    record {
      s_in = state_below;
      t_in = rw h.1 (saved_in t.states t.sets p);
      v_in = rw h.1 (bits_in t.states t.sets p);
    },
  )

  -- p is its slot, so the row of its slot is that of p
  pub slot_is : slot_of t.states t.sets r ≡ p
  slot_is = ap (slot_of t.states t.sets) h.1 ∙ slot_of_record t.states t.sets p

  pub row_is : (R : Flag) → row_of R b (slot_of t.states t.sets r) ≡ row_of R b p
  row_is R = ap (row_of R b) slot_is

  -- the record after it is that of the next slot
  pub next_is : {r' : Record} → r' ≡ record_of_slot t.states t.sets (slot_of t.states t.sets r + 1) → RecordAt t (p + 1) r'
  next_is d = d ∙ ap (λ (x : ℕ). record_of_slot t.states t.sets (x + 1)) slot_is

  pub unsaved_is : eqb r.t t.states ≡ unsaved (block_of b) (at (block_of b) p).t
  unsaved_is = ap₂ (λ (r : Record) (n : ℕ). eqb r.t n) record_is (a.laid.states_are ∙ sym (block_states b))

  -- its row
  pub from_is : {from : ℕ} → from ≡ row_start b r.s → from ≡ from_of b p
  from_is d = d ∙ ap (λ (r : Record). row_start b r.s) record_is

  pub to_is : {to : ℕ} → to ≡ row_start b (r.s + 1) → to ≡ to_of b p
  to_is d = d ∙ ap (row_start b) (add-one r.s) ∙ ap (λ (r : Record). row_start b (suc r.s)) record_is

  pub row_in : (from_of b p < to_of b p) × (to_of b p ≤ t.edges)
  row_in =
      let s_in = state_in b p slot_in in
      (row_some b a.formed (state_of b p) s_in, omega (arith, row_to_lem b a.formed (state_of b p) s_in, a.laid.edges_are))

  -- how long it is
  pub row_counted : (R : Flag) {from to : ℕ} → from ≡ row_start b r.s → to ≡ row_start b (r.s + 1) → (to - from) * (1 + bool_byte (eqb r.t t.states)) ≡ length (row_of R b p)
  row_counted R {from} {to} d d' =
      ap₂ ◌*◌ (ap₂ ◌-◌ (to_is d') (from_is d)) (ap (λ (u : Bool). 1 + bool_byte u) unsaved_is ∙ go (unsaved (block_of b) (at (block_of b) p).t))
      ∙ sym (length_row R b p)
    where
      go : (u : Bool) → 1 + bool_byte u ≡ cond u 2 1
      go true = refl
      go false = refl

  -- which is not much
  pub row_few : (R : Flag) → length (row_of R b p) ≤ 2 * t.edges
  row_few R = rw (length_row R b p) (go (to_of b p - from_of b p) (unsaved (block_of b) (at (block_of b) p).t) (omega (arith, row_in)))
    where
      go : (k : ℕ) (u : Bool) → k ≤ t.edges → k * cond u 2 1 ≤ 2 * t.edges
      go k true h = omega arith
      go k false h = omega arith

  -- the start record of its state, as the code makes it
  pub first_is : {first : Record} → StartSays r.s t.states first → first ≡ start_of live_flag (block_of b) r.s
  first_is d = d (block_of b) (block_states b ∙ sym a.laid.states_are)

  -- and by any flag
  module _ (R : Flag) {first : Record} (is : first ≡ start_of R (block_of b) r.s) where
    pub first_range : (t.states ≤ 64) × (t.sets ≤ 8) × InRange t.states t.sets first
    first_range = made_range R b t a.laid r.s first is state_below

    first_slot : {x : ℕ} → x ≡ slot_of t.states t.sets first → x ≡ start_slot R b (state_of b p)
    first_slot {x} q = made_slot R b t a.laid r.s first is x q ∙ ap (λ (r : Record). start_slot R b r.s) record_is

    -- its mark
    pub mark_is : {x : ℕ} {start goal bad : Bool} → x ≡ slot_of t.states t.sets first → start ≡ (block_of b).start r.s → goal ≡ (block_of b).goal r.s
        → BadSays r t.sets bad → bool_byte (start && eqb p x) + 2 * bool_byte goal + 64 * bool_byte bad ≡ slot_mark R b p
    unfolding slot_mark is_start
    mark_is q es eg eb =
        let es' = es ∙ ap (λ (r : Record). (block_of b).start r.s) record_is in
        let eg' = eg ∙ ap (λ (r : Record). (block_of b).goal r.s) record_is in
        let eb' = eb (block_of b) (block_sets b ∙ sym a.laid.sets_are) ∙ ap (bad_of (block_of b)) record_is in
        simp (byte_is_bit, es', eg', eb', first_slot q)
