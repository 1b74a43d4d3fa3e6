-- The table is opened and taken, the code goes down lines 12 and 13, and the rules' step reads of the block what the code read of the bytes.
use Rattle.std.proofs.Common.{sym, ap, ◌∙◌, Ok}
use Rattle.table.specs.BlockOf.{block_of}
use Rattle.table.proofs.WellFormed.{opened, refused_why}
use Rattle.stepping.proofs.Laws.{Reads, reads, table_refused, block_counts, record_refused, no_edge, moves}
use Rattle.stepping.proofs.step.Goals as goal

pub returns-in_default : goal.returns-in_default
returns-in_default c = table_refused _ _ _ _ _ (refused_why _ _ _ _ c.open-opened.ensures c.in_default.is c.why.ensures)

pub fits-requires : goal.fits-requires
fits-requires c = (opened _ _ _ c.open-opened.ensures c.in-Ok.is).laid.sets_to

pub returns-then-not-fits : goal.returns-then-not-fits
returns-then-not-fits c = record_refused _ _ _ _ _ (sym c.open-opened.ensures ∙ c.in-Ok.is) (sym c.fits.ensures ∙ c.if-not-fits.true)

pub has_edge-requires : goal.has_edge-requires
has_edge-requires c =
    let k : Reads c.args.bytes.now _ c.args.r = reads _ _ c.args.r c.args.next (sym c.open-opened.ensures ∙ c.in-Ok.is) (sym c.fits.ensures ∙ c.if-not-fits.false) in
    record { well_formed = k.formed; states_value = k.state_in }

pub returns-then-not-has_edge : goal.returns-then-not-has_edge
returns-then-not-has_edge c = no_edge _ _ _ _ _ (sym c.open-opened.ensures ∙ c.in-Ok.is) (sym c.fits.ensures ∙ c.if-not-fits.false) (sym c.has_edge.ensures ∙ c.if-not-has_edge.true)

pub has_goal-goal-requires : goal.has_goal-goal-requires
has_goal-goal-requires c = (reads _ _ c.args.r c.args.next (sym c.open-opened.ensures ∙ c.in-Ok.is) (sym c.fits.ensures ∙ c.if-not-fits.false)).marks

pub fair-fair-requires : goal.fair-fair-requires
fair-fair-requires c = (reads _ _ c.args.r c.args.next (sym c.open-opened.ensures ∙ c.in-Ok.is) (sym c.fits.ensures ∙ c.if-not-fits.false)).marks

pub returns : goal.returns
returns c =
    ap Ok (c.step.ensures (block_of c.args.bytes.now) (record {
      states = (block_counts _ _ (sym c.open-opened.ensures ∙ c.in-Ok.is)).0;
      goal_is = sym c.has_goal-goal.ensures;
      fair_is = sym c.fair-fair.ensures;
    }))
    ∙ moves _ _ _ _ _ (sym c.open-opened.ensures ∙ c.in-Ok.is) (sym c.fits.ensures ∙ c.if-not-fits.false) (sym c.has_edge.ensures ∙ c.if-not-has_edge.false)
