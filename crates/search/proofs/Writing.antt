-- Writing the states of the path that the climb passes, the last one first: what holds at each turn (`Writing`), and the laws of one turn, over plain
-- values. Assumes nothing.
use Rattle.std.specs.Prelude.{◌≡◌, refl, Bool, true, false, cond, List, [], ◌∷◌, ◌++◌, ℕ, ◌+◌, ◌-◌, ◌/◌, ◌%◌, ◌≤◌, ◌<◌, eqb, length, set, take, drop}
use Rattle.std.proofs.Common.{sym, ap, ◌∙◌, arith, length-set}
use mir.Val.{bool_byte}
use Rattle.std.proofs.Math.Decide.{dec_lt}
use Rattle.std.proofs.Math.ListN.{take-append-drop}
use Rattle.order.specs.Word.{Word}
use Rattle.recorder.specs.Slots.{record_of_slot, slot_count}
use Rattle.recorder.proofs.Slots.{record_in}
use Rattle.recorder.specs.declared.Record.{Record}
use Rattle.writing.proofs.Placed.{write_down}
use Rattle.search.specs.Workspace.{origin_at, slot_at}
use Rattle.search.specs.Report.{halves, odds}
use Rattle.search.proofs.Report.{number_half, number_odd}
use Rattle.search.specs.Climb.{Climbs, label_of, path_by}
use Rattle.search.proofs.ClimbLaws.{Climbing, climb_begins, climb_down, climb_goes_on, climb_ends, climb_left}

-- The letters `done` are written into the words from left up to len, and counted.
pub record Written (report₀ : List ℕ) (len : ℕ) (done : Word) (report : List ℕ) (left unsaved : ℕ) : Type 0 where
  pub left_is : left + length done ≡ len
  pub report_is : report ≡ take left report₀ ++ (halves done ++ drop len report₀)
  pub unsaved_is : unsaved ≡ odds done
  -- a letter is counted once at most
  pub unsaved_to : unsaved + left ≤ len
  pub same_length : length report ≡ length report₀

-- So many words are left to be written.
pub record Writing (w report₀ : List ℕ) (S n m head len i : ℕ) (report : List ℕ) (left unsaved : ℕ) : Type 0 where
  -- the climb never rises
  pub down : i ≤ head
  -- the letters passed
  pub done : Word
  pub written : Written report₀ len done report left unsaved
  -- while words are left, the climb stands at i
  pub passed : 0 < left → Climbing (label_of n m) S w head i done
  -- when none is left, the letters passed are the path
  pub whole : left ≡ 0 → path_by (label_of n m) S w head ≡ done

-- ---- no letter is written yet
written_none : (report₀ : List ℕ) (len : ℕ) → Written report₀ len [] report₀ len 0
unfolding halves odds
written_none report₀ len = record {
  left_is = omega arith;
  report_is = sym (take-append-drop len report₀);
  unsaved_is = refl;
  unsaved_to = omega arith;
  same_length = refl;
}

-- ---- one more letter, with its state s and its count u
written_on : (report₀ : List ℕ) (len : ℕ) (done : Word) (report : List ℕ) (left unsaved a s u : ℕ) → Written report₀ len done report left unsaved
    → len ≤ length report₀ → 0 < left → a / 2 ≡ s → a % 2 ≡ u → Written report₀ len (a ∷ done) (set report (left - 1) s) (left - 1) (unsaved + u)
unfolding halves odds
written_on report₀ len done report left unsaved a s u k h p es eu = record {
  left_is = omega arith;
  report_is =
      let rest = halves done ++ drop len report₀ in
      ap (λ (r : List ℕ). set r (left - 1) s) k.report_is ∙ write_down report₀ rest left s p (omega arith)
      ∙ ap (λ (s : ℕ). take (left - 1) report₀ ++ s ∷ rest) (sym es);
  unsaved_is = omega arith;
  unsaved_to = omega arith;
  same_length = simp length-set k.same_length;
}

byte_is_bit : (b : Bool) → cond b 1 0 ≡ bool_byte b
byte_is_bit true = refl
byte_is_bit false = refl

-- ---- along the code, where the path to head has len letters
module _ {w report₀ : List ℕ} {S n m head len : ℕ} (k : Climbs w S head)
    (size : (len ≡ length (path_by (label_of n m) S w head)) × (len ≤ length report₀)) where
  pub writing_begins : Writing w report₀ S n m head len head report₀ len 0
  writing_begins =
      let begins = climb_begins (label_of n m) S w head in
      record {
        down = omega arith;
        done = [];
        written = written_none report₀ len;
        passed = λ p. begins;
        whole = λ z. absurd (omega (arith, z, climb_left k head (omega arith) refl refl begins, size.0));
      }

  module _ {i : ℕ} {report : List ℕ} {left unsaved : ℕ} (g : Writing w report₀ S n m head len i report left unsaved) where
    -- at the end the letters written are the path
    module _ (z : left ≡ 0) where
      pub counts_path : unsaved ≡ odds (path_by (label_of n m) S w head)
      counts_path = g.written.unsaved_is ∙ ap odds (sym (g.whole z))

      pub writes_path : report ≡ halves (path_by (label_of n m) S w head) ++ drop len report₀
      writes_path =
          g.written.report_is ∙ ap (λ (j : ℕ). take j report₀ ++ (halves g.done ++ drop len report₀)) z
          ∙ ap (λ (v : Word). halves v ++ drop len report₀) (sym (g.whole z))

    -- a word is left for the letter at i
    module _ (p : 0 < left) {x : ℕ} {r : Record} (slot : x ≡ slot_at S w i) (is : r ≡ record_of_slot n m x) where
      -- whose state is a state
      pub state_small : S ≡ slot_count n m → r.s < n
      state_small e =
          let x_in : x < slot_count n m = omega (arith, slot, k.below i (omega (arith, g.down, k.head_in))) in
          omega (arith, (record_in n m x x_in).s_in, ap (λ (r : Record). r.s) is)

      module _ {u : ℕ} (count : u ≡ bool_byte (eqb r.t n)) where
        abbrev passed_on : Word
        passed_on = label_of n m (slot_at S w i) ∷ g.done

        -- and is written there
        letter_written : Written report₀ len passed_on (set report (left - 1) r.s) (left - 1) (unsaved + u)
        letter_written =
            let y = record_of_slot n m (slot_at S w i) in
            let same : r ≡ y = is ∙ ap (record_of_slot n m) slot in
            let s_is = number_half y.s (eqb y.t n) ∙ ap (λ (r : Record). r.s) (sym same) in
            let u_is = number_odd y.s (eqb y.t n) ∙ byte_is_bit (eqb y.t n) ∙ ap (λ (r : Record). bool_byte (eqb r.t n)) (sym same) ∙ sym count in
            written_on report₀ len g.done report left unsaved (label_of n m (slot_at S w i)) r.s u g.written size.1 p s_is u_is

        module _ {o : ℕ} (origin : o ≡ origin_at w x) where
          -- at a start the climb ends, and no word is left
          ends : o < 2 → (path_by (label_of n m) S w head ≡ passed_on) × (left - 1 ≡ 0)
          ends h =
              let e = climb_ends k i g.down slot origin (g.passed p) h in
              (e, omega (arith, letter_written.left_is, size.0, ap length e))

          -- at another record it goes on, and a word is left
          goes_on : 2 ≤ o → (o - 2 ≤ head) × Climbing (label_of n m) S w head (o - 2) passed_on × (0 < left - 1)
          goes_on h =
              let l : o - 2 ≤ head = omega (arith, climb_down k i g.down slot origin h, g.down) in
              let c = climb_goes_on k i g.down slot origin (g.passed p) h in
              (l, c, omega (arith, letter_written.left_is, climb_left k (o - 2) l refl refl c, size.0))

          pub writing_on : Writing w report₀ S n m head len (o - 2) (set report (left - 1) r.s) (left - 1) (unsaved + u)
          writing_on = go (dec_lt o 2)
            where
              go : Dec (o < 2) → Writing w report₀ S n m head len (o - 2) (set report (left - 1) r.s) (left - 1) (unsaved + u)
              go (yes h) =
                  let (e, z) = ends h in
                  record {
                    down = omega arith;
                    done = passed_on;
                    written = letter_written;
                    passed = λ q. absurd (omega (arith, q, z));
                    whole = λ z. e;
                  }
              go (no h) =
                  let (l, c, q) = goes_on (omega arith) in
                  record {
                    down = l;
                    done = passed_on;
                    written = letter_written;
                    passed = λ q. c;
                    whole = λ z. absurd (omega (arith, q, z));
                  }
