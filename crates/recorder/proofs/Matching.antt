-- Laws of specs/Matching.antt. Assumes nothing.
use Rattle.std.specs.Prelude.{◌≡◌, refl, Bool, true, false, cond, List, [], ◌∷◌, map, ℕ, zero, suc, ◌<◌, length}
use Rattle.std.proofs.Common.{sym, ap, ◌∙◌, subst, suc-le-suc, le_of_suc-le-suc, arith, eq-eqb, ne_eqb}
use Rattle.std.proofs.lemmas.List.{length-map}
use Rattle.std.proofs.Math.ListN.{get_or-map}
use Rattle.recorder.specs.Block.{Block, Sound}
use Rattle.recorder.specs.Lasso.{Run, state}
use Rattle.recorder.specs.Flag.{Flag}
use Rattle.recorder.specs.Recorder.{RecordRun, StepTo, Choice, none, place, Fits, wished, later, earlier, after, record_at, record_of, strike, first_saved, choice_of, start_of, step_of, save_of, unsaved, goal_of}
use Rattle.recorder.specs.declared.Record.{Record}
use Rattle.recorder.specs.Matching.{Matching}

-- the states of ss are below n
abbrev pub Within : Block → List ℕ → Type 0
Within B ss = (i : ℕ) → i < length ss → state ss i < B.n

pub run_within : (B : Block) → Sound B → (ss : List ℕ) → Run B ss → Within B ss
run_within B ok ss r zero h = ok.start_in _ r.starts
run_within B ok ss r (suc i) h = (ok.edge_in _ _ (r.edges i h)).1

-- a state is not the mark of nothing saved
pub state_saved : (B : Block) (s : ℕ) → s < B.n → unsaved B s ≡ false
state_saved B s h = ne_eqb s B.n (λ e. omega arith)

-- the wish at place i
abbrev pub wish_at : Choice → ℕ → Bool
wish_at c zero = wished c
wish_at c (suc i) = wish_at (later c) i

module _ (F : Flag) (B : Block) where
  -- ---- from a run and a choice to records
  pub length-after : (r : Record) (ss : List ℕ) (c : Choice) → length (after F B r ss c) ≡ length ss
  length-after r [] c = refl
  length-after r (s ∷ ss) c = ap suc (length-after (step_of F B r s (wished c)) ss (later c))

  pub length-record_at : (ss : List ℕ) (c : Choice) → length (record_at F B ss c) ≡ length ss
  length-record_at [] c = refl
  length-record_at (s ∷ ss) c = ap suc (length-after _ ss c)

  strike_after : (r : Record) (ss : List ℕ) (c : Choice) → strike (after F B r ss c) ≡ ss
  strike_after r [] c = refl
  strike_after r (s ∷ ss) c = ap (λ (l : List ℕ). s ∷ l) (strike_after (step_of F B r s (wished c)) ss (later c))

  -- striking out the record gives the run back
  pub strike_record_at : (ss : List ℕ) (c : Choice) → strike (record_at F B ss c) ≡ ss
  strike_record_at [] c = refl
  strike_record_at (s ∷ ss) c = ap (λ (l : List ℕ). s ∷ l) (strike_after _ ss c)

  -- each record is a step from the one before
  pub step_after : (r : Record) (ss : List ℕ) (c : Choice) (i : ℕ) → i < length ss
      → record_of (after F B r ss c) i ≡ step_of F B (record_of (r ∷ after F B r ss c) i) (state ss i) (wish_at c i)
  step_after r [] c i h = absurd (omega arith)
  step_after r (s ∷ ss) c zero h = refl
  step_after r (s ∷ ss) c (suc i) h = step_after (step_of F B r s (wished c)) ss (later c) i (le_of_suc-le-suc h)

  pub step_record_at : (ss : List ℕ) (c : Choice) (i : ℕ) → suc i < length ss
      → record_of (record_at F B ss c) (suc i) ≡ step_of F B (record_of (record_at F B ss c) i) (state ss (suc i)) (wish_at c i)
  step_record_at [] c i h = absurd (omega arith)
  step_record_at (s ∷ ss) c i h = step_after _ ss c i (le_of_suc-le-suc h)

  pub first_record_at : (ss : List ℕ) (c : Choice) → 0 < length ss → record_of (record_at F B ss c) 0 ≡ start_of F B (state ss 0)
  first_record_at [] c h = absurd (omega arith)
  first_record_at (s ∷ ss) c h = refl

  pub state_record_at : (ss : List ℕ) (c : Choice) (i : ℕ) → (record_of (record_at F B ss c) i).s ≡ state ss i
  state_record_at ss c i = sym (get_or-map (λ (r : Record). r.s) (record_at F B ss c) i _) ∙ ap (λ (l : List ℕ). state l i) (strike_record_at ss c)

  pub record_at_run : (ss : List ℕ) (c : Choice) → Run B ss → RecordRun F B (record_at F B ss c)
  record_at_run ss c r = record {
    some = rw length-record_at r.some;
    starts = (state ss 0, r.starts, first_record_at ss c r.some);
    steps = λ i h. step i (rw length-record_at at h);
  }
    where
      step : (i : ℕ) → suc i < length ss → StepTo F B (record_of (record_at F B ss c) i) (record_of (record_at F B ss c) (suc i))
      step i h =
          (wish_at c i, rw (state_record_at ss c i, state_record_at ss c (suc i)) (r.edges i h), rw (state_record_at ss c (suc i)) (step_record_at ss c i h))

  found : (r : Record) (ss : List ℕ) (c : Choice) → unsaved B r.t ≡ true → Fits c (suc (length ss)) → Within B (r.s ∷ ss)
      → first_saved B (after F B r ss c) ≡ c
  found r [] none u f w = refl
  found r [] (place l) u f w = absurd (omega arith)
  found r (s ∷ ss) none u f w = rw u (ap earlier (found (record { s = s; t = r.t; live = F.next r.live false (B.goal r.s); v = r.v }) ss none u f (λ i h. w (suc i) (suc-le-suc h))))
  found r (s ∷ ss) (place zero) u f w = simp (u, state_saved B r.s (w 0 (omega arith)))
  found r (s ∷ ss) (place (suc l)) u f w = rw u (ap earlier (found (record { s = s; t = r.t; live = F.next r.live false (B.goal r.s); v = r.v }) ss (place l) u (le_of_suc-le-suc f) (λ i h. w (suc i) (suc-le-suc h))))

  -- and its choice back
  pub choice_record_at : (ss : List ℕ) (c : Choice) → Fits c (length ss) → Within B ss → choice_of B (record_at F B ss c) ≡ c
  choice_record_at [] none f w = refl
  choice_record_at [] (place l) f w = absurd (omega arith)
  choice_record_at (s ∷ ss) c f w = found _ ss c (eq-eqb B.n B.n refl) f w

  -- ---- from records to a run and a choice
  abbrev Steps : List Record → Type 0
  Steps rs = (i : ℕ) → suc i < length rs → StepTo F B (record_of rs i) (record_of rs (suc i))

  wished_earlier : (c : Choice) → wished (earlier c) ≡ false
  wished_earlier none = refl
  wished_earlier (place l) = refl

  later_earlier : (c : Choice) → later (earlier c) ≡ c
  later_earlier none = refl
  later_earlier (place l) = refl

  -- one step of the way back
  glue : (r r' : Record) (rs : List Record) (c c' : Choice) (w : Bool) → r' ≡ step_of F B r r'.s w → wished c ≡ w → later c ≡ c'
      → after F B r' (strike rs) c' ≡ rs → after F B r (strike (r' ∷ rs)) c ≡ r' ∷ rs
  glue r r' rs c c' w e nc lc ih = cc

  -- once a state is saved, wishes do nothing
  keeps : (r : Record) (w : Bool) → unsaved B r.t ≡ false → save_of B r w ≡ r.t
  keeps r true u = cc
  keeps r false u = refl

  read_saved : (r : Record) (rs : List Record) (c : Choice) → unsaved B r.t ≡ false → Steps (r ∷ rs) → after F B r (strike rs) c ≡ rs
  read_saved r [] c u st = refl
  read_saved r (r' ∷ rs) c u st =
      let (w, e, p) = st 0 (omega arith) in
      let u' : unsaved B r'.t ≡ false = cc (keeps r w u) in
      let q : r' ≡ step_of F B r r'.s (wished c) = cc (keeps r w u, keeps r (wished c) u) in
      glue r r' rs c (later c) (wished c) q refl refl (read_saved r' rs (later c) u' (λ i h. st (suc i) (suc-le-suc h)))

  module _ (ok : Sound B) where
    read : (r : Record) (rs : List Record) → unsaved B r.t ≡ true → Steps (r ∷ rs) → after F B r (strike rs) (first_saved B rs) ≡ rs
    read r [] u st = refl
    read r (r' ∷ rs) u st = go (st 0 (omega arith)).0 (st 0 (omega arith)).2 (read r' rs)
      where
        rest : Steps (r' ∷ rs)
        rest i h = st (suc i) (suc-le-suc h)

        go : (w : Bool) → r' ≡ step_of F B r r'.s w
            → (unsaved B r'.t ≡ true → Steps (r' ∷ rs) → after F B r' (strike rs) (first_saved B rs) ≡ rs)
            → after F B r (strike (r' ∷ rs)) (first_saved B (r' ∷ rs)) ≡ r' ∷ rs
        go true p ih =
            let u' : unsaved B r'.t ≡ false = cc (state_saved B r.s (ok.edge_in _ _ (st 0 (omega arith)).1).0) in
            glue r r' rs (first_saved B (r' ∷ rs)) none true p (rw u') (rw u') (read_saved r' rs none u' rest)
        go false p ih =
            let u' : unsaved B r'.t ≡ true = cc in
            glue r r' rs (first_saved B (r' ∷ rs)) (first_saved B rs) false p (rw u' (wished_earlier (first_saved B rs))) (rw u' (later_earlier (first_saved B rs))) (ih u' rest)

    -- recording what was struck out, at the place that the records show, gives the records back
    pub record_at_strike : (rs : List Record) → RecordRun F B rs → record_at F B (strike rs) (choice_of B rs) ≡ rs
    record_at_strike [] r = refl
    record_at_strike (r' ∷ rs) r =
        let (s, b, e) = r.starts in
        let u : unsaved B r'.t ≡ true = cc (eq-eqb B.n B.n refl) in
        cc (read r' rs u r.steps)

    first_fits : (rs : List Record) → Fits (first_saved B rs) (suc (length rs))
    first_fits [] = tt
    first_fits (r ∷ rs) = go (unsaved B r.t) (first_saved B rs) (first_fits rs)
      where
        go : (b : Bool) (c : Choice) → Fits c (suc (length rs)) → Fits (cond b (earlier c) (place 0)) (suc (suc (length rs)))
        go true none f = tt
        go true (place l) f = suc-le-suc f
        go false c f = omega arith

    pub choice_fits : (rs : List Record) → Fits (choice_of B rs) (length rs)
    choice_fits [] = tt
    choice_fits (r ∷ rs) = first_fits rs

    -- the states of a run of records are a run
    pub strike_run : (rs : List Record) → RecordRun F B rs → Run B (strike rs)
    strike_run rs r = record {
      some = simp length-map r.some;
      starts = let (s, b, e) = r.starts in subst (λ (x : ℕ). B.start x ≡ true) (sym (state_strike 0 ∙ ap (λ (x : Record). x.s) e)) b;
      edges = λ i h. rw (state_strike i, state_strike (suc i)) (r.steps i (simp length-map at h)).1;
    }
      where
        state_strike : (i : ℕ) → state (strike rs) i ≡ (record_of rs i).s
        state_strike i = get_or-map (λ (x : Record). x.s) rs i _

pub matching : (F : Flag) (B : Block) → Sound B → Matching F B
matching F B ok = record {
  forth = λ ss c r f. (
    record_at_run F B ss c r,
    length-record_at F B ss c,
    strike_record_at F B ss c,
    choice_record_at F B ss c f (run_within B ok ss r),
    sym (map_map (record_at F B ss c)) ∙ ap (map B.goal) (strike_record_at F B ss c),
  );
  back = λ rs r. (strike_run F B ok rs r, simp length-map (choice_fits F B ok rs), record_at_strike F B ok rs r);
}
  where
    map_map : (rs : List Record) → map B.goal (strike rs) ≡ map (goal_of B) rs
    map_map [] = refl
    map_map (r ∷ rs) = ap (λ (l : List Bool). B.goal r.s ∷ l) (map_map rs)
