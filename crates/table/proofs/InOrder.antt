-- Laws of specs/InOrder.antt. Assumes nothing.
use Rattle.std.specs.Prelude.{◌≡◌, refl, Bool, true, false, not, List, [], ◌∷◌, ◌++◌, ℕ, ◌+◌, ◌≤◌, ◌<◌, eqb, ltb, length, Option, None, Some}
use Rattle.std.proofs.Common.{sym, inl, inr, arith}
use Rattle.std.proofs.lemmas.Option.{none-some}
use Rattle.table.specs.First.{first_in}
use Rattle.table.specs.Given.{given, given_at, first_given}
use Rattle.table.specs.Layout.{kind_of, states_of, edges_of, sets_of}
use Rattle.table.specs.Open.{outside, layout_fits, row_start_wrong, target_wrong, row_empty, mark_wrong, count_lines, row_lines, content_lines, refusal_for, answer_of, lines_of, opened_by, open_of}
use Rattle.table.specs.declared.refusal.Refusal.{Refusal}
use Rattle.table.specs.declared.refusal.Refusal.TheVariants.{TooShort, WrongKind, WrongStates, WrongEdges, WrongSets, WrongLayout, WrongRowStart, WrongTarget, EmptyRow, WrongMark, ShortWorkspace, ShortReport, ShortOutput, WrongRecord, NoEdge}
use Rattle.table.specs.InOrder.{list_numbers, position_of, position_after, InOrderFrom, GivenIn, InOrder, ByTheList, end, off, on}

-- ---- laws of any list of lines

-- every refusal stands in the list
pub in_the_list : (r : Refusal) → position_of r < length list_numbers
in_the_list TooShort = omega arith
in_the_list WrongKind = omega arith
in_the_list WrongStates = omega arith
in_the_list WrongEdges = omega arith
in_the_list WrongSets = omega arith
in_the_list WrongLayout = omega arith
in_the_list (WrongRowStart i) = omega arith
in_the_list (WrongTarget i) = omega arith
in_the_list (EmptyRow s) = omega arith
in_the_list (WrongMark s) = omega arith
in_the_list ShortWorkspace = omega arith
in_the_list ShortReport = omega arith
in_the_list ShortOutput = omega arith
in_the_list WrongRecord = omega arith
in_the_list NoEdge = omega arith

-- lines that are given stand where they must
pub past : (p : ℕ) (ls : List (Option Refusal)) → InOrderFrom p ls → (r : Refusal) → GivenIn r ls → p ≤ position_of r
past p [] end r g = absurd g
past p (None ∷ ls) (off k) r (inl q) = absurd (none-some r q)
past p (None ∷ ls) (off k) r (inr g) = past p ls k r g
past p (Some x ∷ ls) (on h k) r (inl q) = let d : x ≡ r = cc in rw (← d) h
past p (Some x ∷ ls) (on h k) r (inr g) = let m : position_after x ≤ position_of r = past (position_after x) ls k r g in omega arith

-- of the lines that are given, the first is the first in the list's order
first_in_list : (p : ℕ) (ls : List (Option Refusal)) → InOrderFrom p ls → (r r' : Refusal) → first_given ls ≡ Some r → GivenIn r' ls
    → position_of r ≤ position_of r'
first_in_list p [] end r r' e g = absurd g
first_in_list p (None ∷ ls) (off k) r r' e (inl q) = absurd (none-some r' q)
first_in_list p (None ∷ ls) (off k) r r' e (inr g) = first_in_list p ls k r r' e g
first_in_list p (Some x ∷ ls) (on h k) r r' e (inl q) = let d : r ≡ r' = cc in rw d (omega arith)
first_in_list p (Some x ∷ ls) (on h k) r r' e (inr g) =
    let d : x ≡ r = cc in
    let m : position_after x ≤ position_of r' = past (position_after x) ls k r' g in
    rw (← d) (omega arith)

-- lines that stand from a later position on stand from an earlier one on
from_earlier : (p q : ℕ) (ls : List (Option Refusal)) → p ≤ q → InOrderFrom q ls → InOrderFrom p ls
from_earlier p q [] h end = end
from_earlier p q (None ∷ ls) h (off k) = off (from_earlier p q ls h k)
from_earlier p q (Some r ∷ ls) h (on a k) = let c : p ≤ position_of r = omega arith in on c k

-- a line before lines that stand after it; without a place, and with one
pub line : (p : ℕ) (t : Bool) (r : Refusal) (ls : List (Option Refusal)) → p ≤ position_of r → InOrderFrom (position_after r) ls → InOrderFrom p (given t r ∷ ls)
line p true r ls h k = on h k
line p false r ls h k = off (from_earlier p (position_after r) ls (omega arith) k)

pub line_at : (p : ℕ) (o : Option ℕ) (r : ℕ → Refusal) (ls : List (Option Refusal)) → ((i : ℕ) → position_of (r i) ≡ position_of (r 0)) → p ≤ position_of (r 0)
    → InOrderFrom (position_after (r 0)) ls → InOrderFrom p (given_at o r ∷ ls)
line_at p None r ls e h k = off (from_earlier p (position_after (r 0)) ls (omega arith) k)
line_at p (Some i) r ls e h k = let c : p ≤ position_of (r i) = rw (e i) h in let d : InOrderFrom (position_after (r i)) ls = rw (e i) k in on c d

-- ---- the table's lines, and after them a job's own

module _ (b : List ℕ) (ls : List (Option Refusal)) where
  -- the lines after each count's, and after that of the kind: the parts of `lines_of` that the laws below go through
  abbrev pub after_sets : List (Option Refusal)
  after_sets = (row_lines b ++ content_lines b) ++ ls

  abbrev pub after_edges : List (Option Refusal)
  after_edges = given (outside (sets_of b) 0 4) WrongSets ∷ after_sets

  abbrev pub after_states : List (Option Refusal)
  after_states = given (outside (edges_of b) 1 1024) WrongEdges ∷ after_edges

  abbrev pub after_kind : List (Option Refusal)
  after_kind = given (outside (states_of b) 1 64) WrongStates ∷ after_states

  pub after_sets_lem : InOrderFrom (position_after (WrongMark 0)) ls → InOrderFrom (position_after WrongSets) after_sets
  unfolding row_lines content_lines
  after_sets_lem k =
      line (position_after WrongSets) (not (layout_fits b)) WrongLayout _ (omega arith)
      (line_at (position_after WrongLayout) (first_in 0 (states_of b + 1) (row_start_wrong b)) WrongRowStart _ (λ i. refl) (omega arith)
      (line_at (position_after (WrongRowStart 0)) (first_in 0 (edges_of b) (target_wrong b)) WrongTarget _ (λ i. refl) (omega arith)
      (line_at (position_after (WrongTarget 0)) (first_in 0 (states_of b) (row_empty b)) EmptyRow _ (λ i. refl) (omega arith)
      (line_at (position_after (EmptyRow 0)) (first_in 0 (states_of b) (mark_wrong b)) WrongMark ls (λ i. refl) (omega arith) k))))

  pub after_edges_lem : InOrderFrom (position_after (WrongMark 0)) ls → InOrderFrom (position_after WrongEdges) after_edges
  after_edges_lem k = line (position_after WrongEdges) (outside (sets_of b) 0 4) WrongSets _ (omega arith) (after_sets_lem k)

  pub after_states_lem : InOrderFrom (position_after (WrongMark 0)) ls → InOrderFrom (position_after WrongStates) after_states
  after_states_lem k = line (position_after WrongStates) (outside (edges_of b) 1 1024) WrongEdges _ (omega arith) (after_edges_lem k)

  after_kind_lem : InOrderFrom (position_after (WrongMark 0)) ls → InOrderFrom (position_after WrongKind) after_kind
  after_kind_lem k = line (position_after WrongKind) (outside (states_of b) 1 64) WrongStates _ (omega arith) (after_states_lem k)

  lines_in_order : InOrderFrom (position_after (WrongMark 0)) ls → InOrder (lines_of b ++ ls)
  unfolding lines_of count_lines
  lines_in_order k =
      line 0 (ltb (length b) 28) TooShort _ (omega arith)
      (line (position_after TooShort) (not (eqb (kind_of b) 1)) WrongKind _ (omega arith) (after_kind_lem k))

-- what a job refuses is the first line that is given, of the table's lines and then its own
down_the_list : (b : List ℕ) (ls : List (Option Refusal)) → refusal_for (open_of b) ls ≡ first_given (lines_of b ++ ls)
unfolding open_of opened_by
down_the_list b ls = go (lines_of b)
  where
    go : (rs : List (Option Refusal)) → refusal_for (answer_of b (first_given rs)) ls ≡ first_given (rs ++ ls)
    go [] = refl
    go (None ∷ rs) = go rs
    go (Some r ∷ rs) = refl

pub by_the_list : (b : List ℕ) (ls : List (Option Refusal)) → InOrderFrom (position_after (WrongMark 0)) ls → ByTheList b ls (refusal_for (open_of b) ls)
by_the_list b ls k = record { in_order = lines_in_order b ls k; is_first = down_the_list b ls }

-- no line that is given stands before the refusal in the list
pub none_before : (b : List ℕ) (ls : List (Option Refusal)) (r : Refusal) → ByTheList b ls (Some r) → (r' : Refusal) → GivenIn r' (lines_of b ++ ls)
    → position_of r ≤ position_of r'
none_before b ls r h r' = first_in_list 0 (lines_of b ++ ls) h.in_order r r' (sym h.is_first)

-- opening has no lines of its own after these
pub open_by_the_list : (b : List ℕ) → ByTheList b [] (refusal_for (open_of b) [])
open_by_the_list b = by_the_list b [] end
