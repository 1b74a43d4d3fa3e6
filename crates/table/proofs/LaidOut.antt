-- Laws of specs/LaidOut.antt. Assumes nothing.
use Rattle.std.specs.Prelude.{◌≡◌, true, false, ◌↔◌, List, ℕ, ◌≤◌, length}
use Rattle.std.proofs.Common.{ap, arith}
use mathlib.Core.Logic.Iff
use Rattle.table.specs.Layout.{states_of, edges_of, sets_of, rows_offset, targets_offset, marks_offset, rows_at, targets_at, marks_at, length_of, table_of}
use Rattle.table.specs.Open.{outside, layout_fits}
use Rattle.table.proofs.Facts.{facts}
use Rattle.table.specs.declared.Table.{Table}
use Rattle.table.specs.LaidOut.{FromTo, LaidOut}

-- a table with these counts is the one that the header counts
pub table_is : (b : List ℕ) (t : Table) → t.states ≡ states_of b → t.edges ≡ edges_of b → t.sets ≡ sets_of b → t ≡ table_of b
table_is b t s e m = λ i. record { states = s i; edges = e i; sets = m i }

-- so a table is laid out where it is the header's, its counts are inside their ranges and the length is theirs
pub laid_by : (b : List ℕ) (t : Table) → t ≡ table_of b
    → FromTo (states_of b) 1 64 → FromTo (edges_of b) 1 1024 → sets_of b ≤ 4
    → length b ≡ length_of (states_of b) (edges_of b) → LaidOut b t
laid_by b t e states edges sets size =
    let s : t.states ≡ states_of b = ap (λ (t : Table). t.states) e in
    let d : t.edges ≡ edges_of b = ap (λ (t : Table). t.edges) e in
    let m : t.sets ≡ sets_of b = ap (λ (t : Table). t.sets) e in
    record {
      states_are = s;
      edges_are = d;
      sets_are = m;
      states_from = omega arith;
      states_to = omega arith;
      edges_from = omega arith;
      edges_to = omega arith;
      sets_to = omega arith;
      size = omega arith;
    }

-- ---- what a count's line and line 4 say where they are not given, nested as the tests are

pub inside : (x low high : ℕ) → (outside x low high ≡ false) ↔ FromTo x low high
unfolding outside
inside x low high = simp facts Iff.rfl

pub layout_right : (b : List ℕ) → (layout_fits b ≡ true)
    ↔ ((((rows_offset b ≡ rows_at) × (targets_offset b ≡ targets_at (states_of b))) × (marks_offset b ≡ marks_at (states_of b) (edges_of b)))
    × (length b ≡ length_of (states_of b) (edges_of b)))
unfolding layout_fits
layout_right b = simp facts Iff.rfl
