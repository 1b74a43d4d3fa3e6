-- A run of records ends bad exactly when the run before it, looped at the recorded place, is a lasso.
-- Assumes nothing.
use Rattle.std.specs.Prelude.{◌≡◌, refl, Bool, true, false, not, ◌&&◌, ◌↔◌, List, ℕ, zero, suc, ◌-◌, ◌^◌, ◌<◌, ◌≤◌, eqb, leb, length, take}
use Rattle.std.proofs.Common.{sym, ap, ap₂, ◌∙◌, true≢false, arith, get_or-take, length-take-le, eqb-true, eq-eqb, ne_eqb}
use Rattle.std.proofs.lemmas.Bool.{false≢true}
use mathlib.Core.Logic.Iff
use Rattle.recorder.specs.Block.{Block, Sound}
use Rattle.recorder.specs.Lasso.{Lasso, Run, FairLoop, state}
use Rattle.recorder.specs.Flag.{Flag, live_flag, LassoBy, flag_at}
use Rattle.recorder.specs.Recorder.{Choice, none, place, Fits, start_of, record_at, record_of, bad_of}
use Rattle.recorder.specs.Looped.{Looped}
use Rattle.recorder.proofs.Bits.{full}
use Rattle.recorder.proofs.Matching.{Within, run_within, state_record_at, first_record_at}
use Rattle.recorder.specs.Places.{placed, bits_at}
use Rattle.recorder.proofs.Places.{record_at_lem, saved_none, saved_after, Met, bits_lt, bits_met, met_bits}
use Rattle.recorder.proofs.Live.{lasso_live}
use Rattle.recorder.specs.declared.Record.{Record}

-- what the test says
pub bad_says : (B : Block) (r : Record) → (bad_of B r ≡ true) ↔ ((r.s ≡ r.t) × (r.live ≡ false) × (r.v ≡ 2 ^ B.m - 1))
bad_says B r = (go (eqb r.s r.t) r.live (eqb r.v (2 ^ B.m - 1)) refl refl refl, λ h. rw (eq-eqb _ _ h.0, h.1, eq-eqb _ _ h.2))
  where
    go : (a b c : Bool) → eqb r.s r.t ≡ a → r.live ≡ b → eqb r.v (2 ^ B.m - 1) ≡ c → a && not b && c ≡ true
        → (r.s ≡ r.t) × (r.live ≡ false) × (r.v ≡ 2 ^ B.m - 1)
    go true false true p q s e = (eqb-true _ _ p, q, eqb-true _ _ s)
    go true false false p q s e = absurd (false≢true e)
    go true true c p q s e = absurd (false≢true e)
    go false b c p q s e = absurd (false≢true e)

-- a record at a state with nothing saved is not bad
not_bad : (B : Block) (r : Record) → r.s < B.n → r.t ≡ B.n → bad_of B r ≡ false
not_bad B r h e = rw (ne_eqb r.s r.t (λ p. omega arith))

-- what is looped depends only on which lassos there are
pub looped_same : (L M : List ℕ → ℕ → Type 0) → ((ss : List ℕ) (l : ℕ) → L ss l ↔ M ss l) → (ss : List ℕ) (k : ℕ) (c : Choice)
    → Looped L ss k c ↔ Looped M ss k c
looped_same L M e ss k none = Iff.rfl
looped_same L M e ss k (place l) = (λ h. (h.0, (e _ l).0 h.1), λ h. (h.0, (e _ l).1 h.1))

-- the first k + 1 states
same : (ss : List ℕ) (k i : ℕ) → i < suc k → state (take (suc k) ss) i ≡ state ss i
same ss k i h = get_or-take (suc k) ss i 0 h

taken : (ss : List ℕ) (k : ℕ) → length ss ≡ suc (suc k) → length (take (suc k) ss) ≡ suc k
taken ss k len = length-take-le (suc k) ss (omega (arith, len))

same_flag : (F : Flag) (B : Block) (ss : List ℕ) (k l i : ℕ) → i ≤ suc k → flag_at F B (take (suc k) ss) l i ≡ flag_at F B ss l i
same_flag F B ss k l zero h = refl
same_flag F B ss k l (suc i) h =
    ap₂ (λ (f : Bool) (s : ℕ). F.next f (leb l i) (B.goal s)) (same_flag F B ss k l i (omega arith)) (same ss k i h)

module _ (F : Flag) (B : Block) (ok : Sound B) (ss : List ℕ) (run : Run B ss) where
  -- a run of no steps
  pub one_not_bad : length ss ≡ 1 → (c : Choice) → bad_of B (record_of (record_at F B ss c) 0) ≡ false
  one_not_bad e c = rw (first_record_at F B ss c (omega (arith, e))) (not_bad B (start_of F B (state ss 0)) (ok.start_in _ run.starts) refl)

  module _ (k : ℕ) (len : length ss ≡ suc (suc k)) where
    none_not_bad : bad_of B (record_of (record_at F B ss none) (suc k)) ≡ false
    none_not_bad =
        not_bad B (record_of (record_at F B ss none) (suc k))
        (rw state_record_at (run_within B ok ss run (suc k) (omega (arith, len))))
        (saved_none F B ss (suc k) (omega (arith, len)))

    -- the loop, from the last state and the sets that were met
    loop_of : (l : ℕ) → l < suc k → state ss (suc k) ≡ state ss l → ((b : ℕ) → b < B.m → Met B ss l (suc k) b) → FairLoop B (take (suc k) ss) l
    loop_of l h e met = record {
      here = rw (taken ss k len) h;
      run = record {
        some = rw (taken ss k len) (omega arith);
        starts = rw (same ss k 0 (omega arith)) run.starts;
        edges = λ i p.
            let q : suc i < suc k = rw (taken ss k len) at p in
            rw (same ss k i (omega arith), same ss k (suc i) q) (run.edges i (omega (arith, len)));
      };
      closes =
          let p : suc k - 1 ≡ k = omega arith in
          rw (taken ss k len, p, same ss k k (omega arith), same ss k l h, ← e) (run.edges k (omega (arith, len)));
      meets = λ b p. let (j, q, r, s) = met b p in (j, q, rw (taken ss k len) r, rw (same ss k j r) s);
    }

    met_of : (l : ℕ) → FairLoop B (take (suc k) ss) l → (b : ℕ) → b < B.m → Met B ss l (suc k) b
    met_of l f b p = let (j, q, r, s) = f.meets b p in let r' : j < suc k = rw (taken ss k len) at r in (j, q, r', rw (same ss k j r') at s)

    place_bad : (l : ℕ) → l < suc k → (bad_of B (record_of (record_at F B ss (place l)) (suc k)) ≡ true) ↔ Looped (LassoBy F B) ss k (place l)
    place_bad l h = (to, from)
      where
        within : Within B ss
        within = run_within B ok ss run

        in_n : state ss l < B.n
        in_n = within l (omega (arith, len))

        at_end : record_of (record_at F B ss (place l)) (suc k) ≡ placed F B ss l (suc k)
        at_end = record_at_lem F B ss l in_n (suc k) (omega (arith, len))

        small : bits_at B ss l (suc k) < 2 ^ B.m
        small = bits_lt B ss l ok within (suc k) (omega (arith, len))

        to : bad_of B (record_of (record_at F B ss (place l)) (suc k)) ≡ true → Looped (LassoBy F B) ss k (place l)
        to e =
            let (p, q, r) = (bad_says B (placed F B ss l (suc k))).0 (ap (bad_of B) (sym at_end) ∙ e) in
            let again : state ss (suc k) ≡ state ss l = p ∙ saved_after F B ss l in_n (suc k) h in (
              again,
              record {
                loop = loop_of l h again (λ b m. bits_met B ss l (suc k) b ((full B.m _ small).0 r b m));
                flag = ap (flag_at F B (take (suc k) ss) l) (taken ss k len) ∙ same_flag F B ss k l (suc k) (omega arith) ∙ q;
              },
            )

        from : Looped (LassoBy F B) ss k (place l) → bad_of B (record_of (record_at F B ss (place l)) (suc k)) ≡ true
        from (again, lasso) =
            ap (bad_of B) at_end
            ∙ (bad_says B (placed F B ss l (suc k))).1 (
              again ∙ sym (saved_after F B ss l in_n (suc k) h),
              sym (ap (flag_at F B (take (suc k) ss) l) (taken ss k len) ∙ same_flag F B ss k l (suc k) (omega arith)) ∙ lasso.flag,
              (full B.m _ small).1 (λ b m. met_bits B ss l (suc k) b (met_of l lasso.loop b m)),
            )

    -- a run of k + 1 steps
    pub ends_bad : (c : Choice) → Fits c (length ss) → (bad_of B (record_of (record_at F B ss c) (suc k)) ≡ true) ↔ Looped (LassoBy F B) ss k c
    ends_bad none f = (λ e. true≢false (sym e ∙ none_not_bad), λ e. absurd e)
    ends_bad (place l) f = place_bad l (omega (arith, len))

-- ---- the flag of docs/RULES.md, "The recorder": the loop is a lasso
pub bad_is_lasso : (B : Block) → Sound B → (ss : List ℕ) → Run B ss → (k : ℕ) → length ss ≡ suc (suc k) → (c : Choice) → Fits c (length ss)
    → (bad_of B (record_of (record_at live_flag B ss c) (suc k)) ≡ true) ↔ Looped (Lasso B) ss k c
bad_is_lasso B ok ss run k len c f = Iff.trans (ends_bad live_flag B ok ss run k len c f) (looped_same _ _ (lasso_live B) ss k c)
