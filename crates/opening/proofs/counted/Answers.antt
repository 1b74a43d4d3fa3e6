-- The code goes down lines 1, 2, 3, 14 and 15, and the counts that it read are the header's.
use mathlib.Core.Path.{◌≡◌, sym, ◌∙◌}
use mathlib.Core.Bool.{true, false}
use lib.Dec.{eqb, ltb}
use lib.ListN.{length}
use borrow.Author.Tests.{lt-ltb, le-ltb, eq-eqb, ne_eqb}
use Rattle.table.specs.Layout.{kind_of, states_of, edges_of, sets_of}
use Rattle.table.specs.Open.{outside}
use Rattle.table.proofs.LaidOut.{table_is}
use Rattle.table.proofs.Stages.{stage_refuses, stage_accepts, too_short, wrong_kind, wrong_states, wrong_edges, wrong_sets, counts_off}
use Rattle.opening.proofs.counted.Goals as goal
use Rattle.opening.proofs.counted.Goals.{After-word-4, After-outside, After-outside-2, After-outside-3}

pub returns-then-bytes-lt28 : goal.returns-then-bytes-lt28
returns-then-bytes-lt28 c = stage_refuses _ _ _ (too_short _ (lt-ltb _ _ c.if-bytes-lt28.true))

pub returns-then-word-ne1 : goal.returns-then-word-ne1
returns-then-word-ne1 c =
    let long : ltb (length c.args.bytes.now) 28 ≡ false = le-ltb _ _ c.if-bytes-lt28.false in
    stage_refuses _ _ _ (wrong_kind _ long (ne_eqb _ _ (λ e. c.if-word-ne1.true (c.word.ensures ∙ e))))

-- ---- what the tests before have shown

header_right : (c : After-word-4) → (ltb (length c.args.bytes.now) 28 ≡ false) × (eqb (kind_of c.args.bytes.now) 1 ≡ true)
header_right c = (le-ltb _ _ c.if-bytes-lt28.false, eq-eqb _ _ (sym c.word.ensures ∙ c.if-word-ne1.false))

states_told : (c : After-outside) → c.outside.result ≡ outside (states_of c.args.bytes.now) 1 64
states_told c = rw (← c.word-2.ensures) c.outside.ensures

edges_told : (c : After-outside-2) → c.outside-2.result ≡ outside (edges_of c.args.bytes.now) 1 1024
edges_told c = rw (← c.word-3.ensures) c.outside-2.ensures

sets_told : (c : After-outside-3) → c.outside-3.result ≡ outside (sets_of c.args.bytes.now) 0 4
sets_told c = rw (← c.word-4.ensures) c.outside-3.ensures

states_in : (c : After-outside-2) → outside (states_of c.args.bytes.now) 1 64 ≡ false
states_in c = sym (states_told (goal.at.After-outside-2 c).After-outside) ∙ c.if-outside.false

edges_in : (c : After-outside-3) → outside (edges_of c.args.bytes.now) 1 1024 ≡ false
edges_in c = sym (edges_told (goal.at.After-outside-3 c).After-outside-2) ∙ c.if-outside-2.false

pub returns-then-outside : goal.returns-then-outside
returns-then-outside c =
    let at = goal.at.returns-then-outside c in
    let (long, kind) = header_right at.After-word-4 in
    stage_refuses _ _ _ (wrong_states _ long kind (sym (states_told at.After-outside) ∙ c.if-outside.true))

pub returns-then-outside-2 : goal.returns-then-outside-2
returns-then-outside-2 c =
    let at = goal.at.returns-then-outside-2 c in
    let (long, kind) = header_right at.After-word-4 in
    stage_refuses _ _ _ (wrong_edges _ long kind (states_in at.After-outside-2) (sym (edges_told at.After-outside-2) ∙ c.if-outside-2.true))

pub returns-then-outside-3 : goal.returns-then-outside-3
returns-then-outside-3 c =
    let at = goal.at.returns-then-outside-3 c in
    let (long, kind) = header_right at.After-word-4 in
    stage_refuses _ _ _ (wrong_sets _ long kind (states_in at.After-outside-2) (edges_in at.After-outside-3) (sym (sets_told at.After-outside-3) ∙ c.if-outside-3.true))

pub returns : goal.returns
returns c =
    let at = goal.at.returns c in
    let (long, kind) = header_right at.After-word-4 in
    stage_accepts _ _ _
    (counts_off _ long kind (states_in at.After-outside-2) (edges_in at.After-outside-3) (sym (sets_told at.After-outside-3) ∙ c.if-outside-3.false))
    (table_is _ _ c.word-2.ensures c.word-3.ensures c.word-4.ensures)
