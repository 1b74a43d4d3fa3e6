-- The runs of the slot graph are the runs of records, with the same words. Assumes nothing.
use Rattle.std.specs.Prelude.{◌≡◌, refl, true, ◌⊎◌, List, [], ◌∷◌, ◌++◌, length, take}
use Rattle.std.proofs.Math.Path.{sym, ap, ap₂}
use Rattle.std.proofs.Common.{subst, subst₂, ◌∙◌, inl, inr, le_of_suc-le-suc, eq-or-lt_of_le, add-one, arith, length-append, take-suc}
use Prim.Native.Nat.{ℕ, zero, suc, ◌-◌, ◌<◌}
use Rattle.std.proofs.Math.ListN.{get_or-append}
use Rattle.std.proofs.Math.Seq.{take-length, get_or-append_seam}
use Rattle.std.proofs.lemmas.List.{get_or_at}
use Rattle.order.specs.Word.{Word, ◌▸◌}
use Rattle.order.specs.Graph.{Run, begin, step, word as spelling, Spells}
use Rattle.recorder.specs.Block.{Block, Sound}
use Rattle.recorder.specs.Flag.{Flag}
use Rattle.recorder.specs.Recorder.{RecordRun, StepTo, zeros, record_of, start_of, step_of, number}
use Rattle.recorder.specs.Slots.{InRange}
use Rattle.recorder.proofs.Slots.{record_of_slot_lem}
use Rattle.recorder.specs.Words.{word}
use Rattle.recorder.specs.SlotGraph.{slot_graph, at, slot}
use Rattle.recorder.proofs.SlotGraph.{start_in_range, step_in_range, at_start, at_next}
use Rattle.recorder.specs.declared.Record.{Record}

-- the last record of a run
abbrev pub last_of : List Record → Record
last_of rs = record_of rs (length rs - 1)

word_snoc : (B : Block) (rs : List Record) (r : Record) → word B (rs ++ (r ∷ [])) ≡ word B rs ▸ number B r
unfolding ◌▸◌
word_snoc B [] r = refl
word_snoc B (r' ∷ rs) r = ap (λ (w : Word). number B r' ∷ w) (word_snoc B rs r)

-- a run of records that ends in the record of slot x, and spells w
pub record Traced (F : Flag) (B : Block) (x : ℕ) (w : Word) : Type 0 where
  pub rs : List Record
  pub run : RecordRun F B rs
  pub ends : last_of rs ≡ at B x
  pub spelled : word B rs ≡ w

module _ (F : Flag) (B : Block) where
  last_snoc : (rs : List Record) (r : Record) → last_of (rs ++ (r ∷ [])) ≡ r
  last_snoc rs r = get_or_at rs r [] _ (length (rs ++ (r ∷ [])) - 1) (omega (arith, length-append rs (r ∷ [])))

  -- one more record
  snoc_run : (rs : List Record) (r : Record) → RecordRun F B rs → StepTo F B (last_of rs) r → RecordRun F B (rs ++ (r ∷ []))
  snoc_run rs r run st = record {
    some = simp length-append (omega arith);
    starts = let (s, h, e) = run.starts in (s, h, old 0 run.some ∙ e);
    steps = λ i h. one_step i (eq-or-lt_of_le (le_of_suc-le-suc (simp (length-append, add-one) at h)));
  }
    where
      old : (i : ℕ) → i < length rs → record_of (rs ++ (r ∷ [])) i ≡ record_of rs i
      old i h = get_or-append rs (r ∷ []) _ i h

      one_step : (i : ℕ) → (suc i ≡ length rs) ⊎ (suc i < length rs) → StepTo F B (record_of (rs ++ (r ∷ [])) i) (record_of (rs ++ (r ∷ [])) (suc i))
      one_step i (inl e) =
          let j : i ≡ length rs - 1 = omega arith in
          subst₂ (StepTo F B) (sym (old i (omega arith) ∙ ap (record_of rs) j)) (sym (ap (record_of (rs ++ (r ∷ []))) e ∙ get_or-append_seam rs r [] _)) st
      one_step i (inr h) = subst₂ (StepTo F B) (sym (old i (omega arith))) (sym (old (suc i) h)) (run.steps i h)

  module _ (ok : Sound B) where
    pub traced : {x : ℕ} (r : Run (slot_graph F B) x) → Traced F B x (spelling r)
    unfolding spelling
    traced (begin {s = x} (s, h, e)) =
        let a : start_of F B s ≡ at B x = sym (ap (at B) e ∙ at_start F B ok s h) in
        record {
          rs = start_of F B s ∷ [];
          run = record { some = omega arith; starts = (s, h, refl); steps = λ i k. absurd (omega arith) };
          ends = a;
          spelled = ap (λ (r : Record). number B r ∷ []) a;
        }
    traced (step {x} {y} r (s', w, h, e)) =
        let t = traced r in
        let a : step_of F B (at B x) s' w ≡ at B y = sym (ap (at B) e ∙ at_next F B ok x s' w h) in
        record {
          rs = t.rs ++ (step_of F B (at B x) s' w ∷ []);
          run = snoc_run t.rs _ t.run (subst (λ (q : Record). StepTo F B q (step_of F B (at B x) s' w)) (sym t.ends) (w, h, refl));
          ends = last_snoc t.rs _ ∙ a;
          spelled = word_snoc B t.rs _ ∙ ap₂ ◌▸◌ t.spelled (ap (number B) a);
        }

    -- every record of a run is in range
    pub run_in_range : (rs : List Record) → RecordRun F B rs → (i : ℕ) → i < length rs → InRange B.n B.m (record_of rs i)
    run_in_range rs run zero h = let (s, k, e) = run.starts in subst (InRange B.n B.m) (sym e) (start_in_range F B ok s k)
    run_in_range rs run (suc i) h =
        let (w, k, e) = run.steps i h in
        let r = run_in_range rs run i (omega arith) in
        subst (InRange B.n B.m) (sym e) (step_in_range F B ok (record_of rs i) (record_of rs (suc i)).s w r.t_in r.v_in k)

    -- so each is the record of its slot
    pub at_place : (rs : List Record) → RecordRun F B rs → (i : ℕ) → i < length rs → at B (slot B (record_of rs i)) ≡ record_of rs i
    at_place rs run i h = let r = run_in_range rs run i h in record_of_slot_lem B.n B.m _ r.t_in r.v_in

    pub slot_step : (r r' : Record) → at B (slot B r) ≡ r → StepTo F B r r' → (slot_graph F B).Edge (slot B r) (slot B r')
    slot_step r r' a (w, h, e) =
        (r'.s, w, subst (λ (q : Record). B.edge q.s r'.s ≡ true) (sym a) h, ap (slot B) e ∙ ap (λ (q : Record). slot B (step_of F B q r'.s w)) (sym a))

    spells_below : (rs : List Record) → RecordRun F B rs → (i : ℕ) → i < length rs
        → Spells (slot_graph F B) (word B (take (suc i) rs)) (slot B (record_of rs i))
    unfolding spelling
    spells_below rs run zero h =
        let (s, k, e) = run.starts in
        record {
          run = begin (s, k, ap (slot B) e);
          spelled = ap (λ (r : Record). number B r ∷ []) (at_place rs run 0 h) ∙ sym (ap (word B) (take-suc rs 0 _ h));
        }
    spells_below rs run (suc i) h =
        let n = spells_below rs run i (omega arith) in
        record {
          run = step n.run (slot_step _ _ (at_place rs run i (omega arith)) (run.steps i h));
          spelled = ap₂ ◌▸◌ n.spelled (ap (number B) (at_place rs run (suc i) h)) ∙ sym (ap (word B) (take-suc rs (suc i) zeros h) ∙ word_snoc B (take (suc i) rs) (record_of rs (suc i)));
        }

    pub spells : (rs : List Record) → RecordRun F B rs → Spells (slot_graph F B) (word B rs) (slot B (last_of rs))
    spells rs run =
        let e : suc (length rs - 1) ≡ length rs = omega (arith, run.some) in
        subst (λ (w : Word). Spells (slot_graph F B) w (slot B (last_of rs))) (ap (word B) (ap (λ (n : ℕ). take n rs) e ∙ take-length rs)) (spells_below rs run (length rs - 1) (omega (arith, run.some)))

    -- the record of the slot of a run's last record is that record
    pub at_last : (rs : List Record) → RecordRun F B rs → at B (slot B (last_of rs)) ≡ last_of rs
    at_last rs run = at_place rs run (length rs - 1) (omega (arith, run.some))
