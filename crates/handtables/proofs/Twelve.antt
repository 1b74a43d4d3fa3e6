-- All twelve rows hold of the rules themselves: a test of a row that antt computes, the theorem that a row that passes the test holds,
-- and the test of all rows at once. Assumes nothing.
use Rattle.std.specs.Prelude.{Result, Ok, Err, Option, Some, None, ◌≡◌, refl, Bool, true, false, ◌&&◌, ℕ, zero, suc, ◌<◌, eqb, ltb, length, get_or, drop}
use Rattle.std.proofs.Common.{sym, ◌∙◌, ap, subst₂, eqb-true, ltb-true}
use Rattle.std.proofs.lemmas.Bool.{false≢true}
use mathlib.Core.List.{List, [], ◌∷◌, Memᴰ}
use Rattle.order.proofs.Tests.{both, picked, same, same_equal}
use Rattle.order.proofs.Certificate.{safe_test, found_test, safe_certified, found_certified}
use Rattle.recorder.specs.Block.{Block, Sound}
use Rattle.recorder.specs.Lasso.{LeastLasso, tie_of}
use Rattle.recorder.specs.Flag.{live_flag}
use Rattle.recorder.specs.Slots.{slot_count, slot_of, record_of_slot}
use Rattle.recorder.proofs.Ties.{tie_determines}
use Rattle.recorder.specs.SlotGraph.{slot_graph}
use Rattle.recorder.proofs.SlotGraph.{slots_determined}
use Rattle.recorder.proofs.Listing.{start_slots, next_slots, bad_slot, listing}
use Rattle.recorder.proofs.Least.{least_of_block}
use Rattle.table.specs.First.{first_from, first_in}
use Rattle.table.specs.Layout.{word_at, row_start, target, mark}
use Rattle.table.specs.Open.{outside, layout_fits, row_start_wrong, opens_row, target_wrong, row_empty, mark_wrong, count_lines, row_lines, content_lines, lines_of, opened_by, open_of}
use Rattle.table.specs.BlockOf.{edge_at, block_of}
use Rattle.table.proofs.WellFormed.{well_formed}
use Rattle.table.proofs.Sound.{sound}
use Rattle.table.specs.declared.Table.{Table}
use Rattle.table.specs.declared.refusal.Refusal.{Refusal}
use Rattle.quote.specs.Sizes.{edge_count}
use Rattle.quote.specs.Boards.{boards, has_room, board_of}
use Rattle.quote.specs.Members.{count_below, members_of}
use Rattle.quote.specs.Quote.{sheet_of, quote_of}
use Rattle.quote.specs.declared.Sheet.{Sheet}
use Rattle.quote.specs.declared.Quoted.{Quoted}
use Rattle.handtables.specs.Drawn.{states, edges, set_count, bytes_of}
use Rattle.handtables.specs.HandRow.{Answer, lasso, holds, Certificate, stopped, ended, HandRow, Answers, RowHolds}
use Rattle.handtables.specs.Rows.{hand_rows}

-- ---- the test

-- a table's and a quote's numbers, and back
abbrev table_numbers : Table → List ℕ
table_numbers t = t.states ∷ t.edges ∷ t.sets ∷ []

abbrev table_from : List ℕ → Table
table_from xs = record { states = get_or xs 0 0; edges = get_or xs 1 0; sets = get_or xs 2 0 }

-- a board's row, from 1 on, or 0 for none
abbrev board_number : Option ℕ → ℕ
board_number None = 0
board_number (Some r) = suc r

abbrev board_from : ℕ → Option ℕ
board_from zero = None
board_from (suc r) = Some r

board_back : (o : Option ℕ) → board_from (board_number o) ≡ o
board_back None = refl
board_back (Some r) = refl

abbrev quote_numbers : Sheet → List ℕ
quote_numbers q = q.slots ∷ q.edges ∷ q.bytes ∷ board_number q.board ∷ q.members

abbrev quote_from : List ℕ → Sheet
quote_from xs = record { slots = get_or xs 0 0; edges = get_or xs 1 0; bytes = get_or xs 2 0; members = drop 4 xs; board = board_from (get_or xs 3 0) }

accepted_as : Table → Result Table Refusal → Bool
accepted_as u (Ok t) = same (table_numbers t) (table_numbers u)
accepted_as u (Err r) = false

same_quote : Sheet → Sheet → Bool
same_quote p q = same (quote_numbers p) (quote_numbers q)

quoted_as : Table → Sheet → Result Quoted Refusal → Bool
quoted_as u p (Ok q) = same (table_numbers q.table) (table_numbers u) && same_quote q.sheet p
quoted_as u p (Err r) = false

-- a lasso wants a search that stopped at the word of that lasso; "holds" one that ended
answer_test : Block → Answer → Certificate → Bool
answer_test B (lasso k l ss) (stopped es head b) =
    eqb (length ss) (suc k)
    && (ltb l (length ss) && found_test (slot_graph live_flag B) (start_slots live_flag B) (next_slots live_flag B) (bad_slot live_flag B) es head b (tie_of ss l))
answer_test B (lasso k l ss) (ended es) = false
answer_test B holds (stopped es head b) = false
answer_test B holds (ended es) = safe_test (slot_graph live_flag B) (start_slots live_flag B) (next_slots live_flag B) (bad_slot live_flag B) es

-- what a row says of its table and of its quote
table_in : HandRow → Table
table_in r = record { states = states r.table; edges = edges r.table; sets = set_count r.table }

quote_in : HandRow → Sheet
quote_in r = record { slots = r.sizes.S; edges = r.sizes.E; bytes = r.sizes.bytes; members = r.members; board = Some 0 }

fits : HandRow → Bool
fits r =
    let b = bytes_of r.table in
    accepted_as (table_in r) (open_of b) && (quoted_as (table_in r) (quote_in r) (quote_of b) && answer_test (block_of b) r.answer r.certificate)

all_fit : List HandRow → Bool
all_fit [] = true
all_fit (r ∷ rs) = fits r && all_fit rs

-- ---- what it tells

accepted_as_lem : (u : Table) (o : Result Table Refusal) → accepted_as u o ≡ true → o ≡ Ok u
unfolding accepted_as
accepted_as_lem u (Ok t) e = ap (λ (xs : List ℕ). Ok (table_from xs)) (same_equal (table_numbers t) (table_numbers u) e)
accepted_as_lem u (Err r) e = absurd (false≢true e)

same_quote_lem : (p q : Sheet) → same_quote p q ≡ true → p ≡ q
unfolding same_quote
same_quote_lem p q e = sym (back p) ∙ ap quote_from (same_equal (quote_numbers p) (quote_numbers q) e) ∙ back q
  where
    back : (q : Sheet) → quote_from (quote_numbers q) ≡ q
    back q = λ i. record { slots = q.slots; edges = q.edges; bytes = q.bytes; members = q.members; board = board_back q.board i }

quoted_as_lem : (u : Table) (p : Sheet) (o : Result Quoted Refusal) → quoted_as u p o ≡ true → o ≡ Ok (record { table = u; sheet = p })
unfolding quoted_as
quoted_as_lem u p (Ok q) e =
    let h = both (same (table_numbers q.table) (table_numbers u)) _ e in
    let t : q.table ≡ u = ap table_from (same_equal (table_numbers q.table) (table_numbers u) h.0) in
    λ i. Ok (record { table = t i; sheet = same_quote_lem q.sheet p h.1 i })
quoted_as_lem u p (Err r) e = absurd (false≢true e)

answer_right : (B : Block) → Sound B → (a : Answer) (c : Certificate) → answer_test B a c ≡ true → Answers B a
unfolding answer_test listing
answer_right B ok (lasso k l ss) (stopped es head b) e =
    let p = both (eqb (length ss) (suc k)) _ e in
    let q = both (ltb l (length ss)) _ p.1 in
    let m = found_certified (listing live_flag B ok) es (slots_determined live_flag B ok) head b (tie_of ss l) q.1 in
    (eqb-true _ _ p.0, is_least (ltb-true _ _ q.0) (((least_of_block B ok).spelled (tie_of ss l)).0 m))
  where
    -- the least lasso has the row's list of numbers, so it is the row's
    is_least : l < length ss → ((ss' : List ℕ) × (l' : ℕ) × LeastLasso B ss' l' × (tie_of ss' l' ≡ tie_of ss l)) → LeastLasso B ss l
    is_least h (ss', l', m, e) =
        let d = tie_determines ss' ss l' l m.is.loop.here h e in
        subst₂ (LeastLasso B) d.0 d.1 m
answer_right B ok (lasso k l ss) (ended es) e = absurd (false≢true e)
answer_right B ok holds (stopped es head b) e = absurd (false≢true e)
answer_right B ok holds (ended es) e = (least_of_block B ok).none.0 (safe_certified (listing live_flag B ok) es e)

-- a row that passes the test holds
row_holds : (r : HandRow) → fits r ≡ true → RowHolds r
unfolding fits table_in quote_in
row_holds r e =
    let p = both (accepted_as (table_in r) (open_of (bytes_of r.table))) _ e in
    let q = both (quoted_as (table_in r) (quote_in r) (quote_of (bytes_of r.table))) _ p.1 in
    let accepted = accepted_as_lem (table_in r) _ p.0 in
    record {
      accepted = accepted;
      quoted = quoted_as_lem (table_in r) (quote_in r) _ q.0;
      answered = answer_right (block_of (bytes_of r.table)) (sound (bytes_of r.table) (well_formed (bytes_of r.table) (table_in r) accepted)) r.answer r.certificate q.1;
    }

all_hold : (rs : List HandRow) → all_fit rs ≡ true → (r : HandRow) → Memᴰ r rs → RowHolds r
unfolding all_fit
all_hold [] e r m = elim m [ ]
all_hold (s ∷ rs) e r (Memᴰ.head p) = rw p (row_holds s (both (fits s) _ e).0)
all_hold (s ∷ rs) e r (Memᴰ.tail m) = all_hold rs (both (fits s) _ e).1 r m

-- all twelve pass
passed : all_fit hand_rows ≡ true
unfolding all_fit fits accepted_as same_quote quoted_as answer_test table_in quote_in same safe_test found_test start_slots next_slots picked tie_of slot_of record_of_slot slot_count bytes_of open_of opened_by lines_of count_lines row_lines content_lines first_in first_from outside layout_fits row_start_wrong target_wrong row_empty mark_wrong opens_row word_at row_start target mark edge_at block_of quote_of sheet_of members_of count_below edge_count board_of has_room boards
passed = refl

-- the twelve rows hold
pub twelve_rows : (r : HandRow) → Memᴰ r hand_rows → RowHolds r
twelve_rows = all_hold hand_rows passed
