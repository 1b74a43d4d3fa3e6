-- `find` gives the first state whose row start is that of the next.
use Rattle.std.proofs.Common.{ap, ◌≡◌, ◌∙◌, true, false, rules, tests}
use Rattle.std.proofs.Math.Numerals.{add-one}
use Rattle.std.proofs.lemmas.Iterator.{first_from_Range}
use Rattle.table.specs.First.{first_in}
use Rattle.table.specs.Open.{row_empty}
use Rattle.table.proofs.First.{first_found}
use Rattle.opening.proofs.faults.empty_row.Goals as goal

pub returns : goal.returns
unfolding row_empty
returns c =
    let b = c.args.bytes.now in
    let found : c.find.result ≡ first_in 0 c.args.t.states (row_empty b) = first_found _ _ (row_empty b) _ (first_from_Range _ _ _ _ (λ s. row_empty b s ≡ true) (λ s. row_empty b s ≡ false) c.find.ensures.ran
    (λ s q k. search (rules, tests, add-one)) (λ s q k. (search rules, search (rules, tests, add-one)))) in
    found ∙ ap (λ n. first_in 0 n (row_empty b)) c.requires.states_are
