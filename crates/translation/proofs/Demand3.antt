-- Laws of specs/Demand3.antt. Assumes nothing.
use Rattle.std.specs.Prelude.{◌≡◌, refl, Bool, true, List, [], ◌∷◌, map, ℕ, zero, suc, ◌<◌, length}
use Rattle.std.proofs.Common.{sym, ap, ap₂, subst, subst₂, ◌∙◌, arith, ext_get_or}
use mathlib.Core.Logic.Iff
use Rattle.std.proofs.lemmas.Simd.{map-map}
use Rattle.std.proofs.lemmas.List.{length-map}
use Rattle.recorder.specs.Block.{Block, Sound}
use Rattle.recorder.specs.Flag.{Flag, live_flag, LassoBy}
use Rattle.recorder.specs.Lasso.{Run, state}
use Rattle.recorder.proofs.Live.{lasso_live}
use Rattle.recorder.specs.Recorder.{RecordRun, StepTo, Fits, zeros, record_of, record_at, strike, choice_of, step_of, bad_of}
use Rattle.recorder.specs.Slots.{InRange}
use Rattle.recorder.proofs.Slots.{slot_of_record, slot_below}
use Rattle.recorder.specs.SlotGraph.{at, slot}
use Rattle.recorder.proofs.SlotGraph.{at_start, at_next}
use Rattle.recorder.proofs.SlotRuns.{run_in_range, at_place, slot_step}
use Rattle.recorder.proofs.Bad.{looped_same}
use Rattle.recorder.proofs.Words.{at_map}
use Rattle.recorder.proofs.Demand3.{demand3_by}
use Rattle.recorder.specs.declared.Record.{Record}
use Rattle.table.specs.Layout.{states_of, sets_of}
use Rattle.table.specs.BlockOf.{block_of}
use Rattle.table.specs.WellFormed.{WellFormed}
use Rattle.table.proofs.Sound.{sound}
use Rattle.table.specs.Recording.{slots_of, state_of}
use Rattle.table.proofs.Recording.{next_in}
use Rattle.translation.specs.File.{file_of}
use Rattle.translation.proofs.ReadBack.{edge_read}
use Rattle.translation.specs.Marks.{bad_in}
use Rattle.translation.proofs.MarksLaws.{goal_mark, bad_mark, start_slot_lem, start_read}
use Rattle.translation.specs.Demand3.{recording, struck, chosen, TranslatesBy, Translates}

-- ---- the proof

module _ (R : Flag) (b : List ℕ) (f : WellFormed b) where
  abbrev B : Block
  B = block_of b

  abbrev F : List ℕ
  F = file_of R b

  ok : Sound B
  ok = sound b f

  -- the slot of a slot's record is that slot
  slot_at : (x : ℕ) → slot B (at B x) ≡ x
  slot_at x = slot_of_record B.n B.m x

  slots_back : (ps : List ℕ) → map (slot B) (map (at B) ps) ≡ ps
  slots_back [] = refl
  slots_back (p ∷ ps) = ap₂ (λ (x : ℕ) (xs : List ℕ). x ∷ xs) (slot_at p) (slots_back ps)

  in_slots : (r : Record) → InRange B.n B.m r → slot B r < slots_of b
  unfolding block_of
  in_slots r h = slot_below (states_of b) (sets_of b) r h

  step_to : (r r' : Record) (s' : ℕ) (wish : Bool) → B.edge r.s s' ≡ true → r' ≡ step_of R B r s' wish → StepTo R B r r'
  step_to r r' s' wish e d = subst (StepTo R B r) (sym d) (wish, e, refl)

  -- ---- from records to slots
  module _ (rs : List Record) (run : RecordRun R B rs) where
    slot_of : (i : ℕ) → i < length rs → state (map (slot B) rs) i ≡ slot B (record_of rs i)
    slot_of i h = at_map (slot B) rs i zeros 0 h

    slot_in : (i : ℕ) → i < length rs → slot B (record_of rs i) < slots_of b
    slot_in i h = in_slots _ (run_in_range R B ok rs run i h)

    records_back : map (at B) (map (slot B) rs) ≡ rs
    records_back =
        ext_get_or zeros _ rs (length-map (map (slot B) rs) (at B) ∙ length-map rs (slot B)) (λ i h.
        let l : i < length rs = simp length-map at h in
        let k : i < length (map (slot B) rs) = simp length-map l in
        at_map (at B) (map (slot B) rs) i 0 zeros k ∙ ap (at B) (slot_of i l) ∙ at_place R B ok rs run i l)

    records_run : Run (block_of F) (map (slot B) rs)
    records_run = record {
      some = simp length-map run.some;
      starts = let (s, h, e) = run.starts in (start_read R b f _).1 (s, h, slot_of 0 run.some ∙ ap (slot B) e);
      edges = λ i h.
          let l : suc i < length rs = simp length-map at h in
          subst₂ (λ (p q : ℕ). (block_of F).edge p q ≡ true) (sym (slot_of i (omega arith))) (sym (slot_of (suc i) l))
          ((edge_read R b f _ _).1 (slot_in i (omega arith), slot_step R B ok _ _ (at_place R B ok rs run i (omega arith)) (run.steps i l)));
    }

    -- the bad mark at place i is that of its record
    bad_at : (i : ℕ) → i < length rs → bad_in F (state (map (slot B) rs) i) ≡ bad_of B (record_of rs i)
    bad_at i h = ap (bad_in F) (slot_of i h) ∙ bad_mark R b f _ (slot_in i h) ∙ ap (bad_of B) (at_place R B ok rs run i h)

  -- ---- and from slots to records
  module _ (ps : List ℕ) (run : Run (block_of F) ps) where
    record_of_lem : (i : ℕ) → i < length ps → record_of (map (at B) ps) i ≡ at B (state ps i)
    record_of_lem i h = at_map (at B) ps i 0 zeros h

    slots_in : (i : ℕ) → i < length ps → state ps i < slots_of b
    slots_in zero h = let (s, k, e) = (start_read R b f (state ps 0)).0 run.starts in rw e (start_slot_lem R b f s k)
    slots_in (suc i) h = let (l, (s', wish, k, e)) = (edge_read R b f (state ps i) (state ps (suc i))).0 (run.edges i h) in rw e (next_in R b f (state ps i) s' wish k)

    slots_run : RecordRun R B (map (at B) ps)
    slots_run = record {
      some = simp length-map run.some;
      starts = let (s, k, e) = (start_read R b f (state ps 0)).0 run.starts in (s, k, record_of_lem 0 run.some ∙ ap (at B) e ∙ at_start R B ok s k);
      steps = λ i h.
          let l : suc i < length ps = simp length-map at h in
          let (p_in, (s', wish, k, e)) = (edge_read R b f (state ps i) (state ps (suc i))).0 (run.edges i l) in
          subst₂ (StepTo R B) (sym (record_of_lem i (omega arith))) (sym (record_of_lem (suc i) l))
          (step_to _ _ s' wish k (ap (at B) e ∙ at_next R B ok (state ps i) s' wish k));
    }

    struck_is : strike (map (at B) ps) ≡ struck b ps
    struck_is = map-map (λ (r : Record). r.s) (at B) ps

  -- the file by a flag is a translation by that flag and its lassos
  pub translates : TranslatesBy R b (LassoBy R (block_of b)) F
  translates = record {
    forth = λ ss c r h.
        let (run, len, st, ch, goals) = (demand3_by R B ok).one_to_one.forth ss c r h in
        let rs = record_at R B ss c in (
          records_run rs run,
          length-map rs (slot B) ∙ len,
          sym (struck_is (map (slot B) rs) (records_run rs run)) ∙ ap strike (records_back rs run) ∙ st,
          ap (choice_of B) (records_back rs run) ∙ ch,
        );
    back = λ ps r.
        let (run, h, e) = (demand3_by R B ok).one_to_one.back (map (at B) ps) (slots_run ps r) in
        let m = struck_is ps r in (
          subst (Run B) m run,
          subst (λ (ss : List ℕ). Fits (chosen b ps) (length ss)) m h,
          ap (λ (ss : List ℕ). recording R b ss (chosen b ps)) (sym m) ∙ ap (map (slot B)) e ∙ slots_back ps,
        );
    goals = λ ps r i h. goal_mark R b f (state ps i) (slots_in ps r i h) ∙ ap B.goal (sym (at_map (state_of b) ps i 0 0 h));
    bad = λ ss c k r h e.
        let (run, len, st, ch, goals) = (demand3_by R B ok).one_to_one.forth ss c r h in
        let d = bad_at (record_at R B ss c) run (suc k) (omega arith) in
        let says = (demand3_by R B ok).bad ss c k r h e in
        (λ z. says.0 (sym d ∙ z), λ z. d ∙ says.1 z);
    never = λ ss c r h e.
        let (run, len, st, ch, goals) = (demand3_by R B ok).one_to_one.forth ss c r h in
        bad_at (record_at R B ss c) run 0 (omega arith) ∙ (demand3_by R B ok).never ss c r e;
  }

-- ---- the rules' flag

-- the file that is written is a translation of the table
pub translates_live : (b : List ℕ) → WellFormed b → Translates b (file_of live_flag b)
translates_live b f =
    let t = translates live_flag b f in
    record {
      forth = t.forth;
      back = t.back;
      goals = t.goals;
      bad = λ ss c k r h e. Iff.trans (t.bad ss c k r h e) (looped_same _ _ (lasso_live (block_of b)) ss k c);
      never = t.never;
    }
