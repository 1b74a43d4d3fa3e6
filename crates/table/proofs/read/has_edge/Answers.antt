-- `find` gives the place of the edge, the first target s2 in the row of s; there is one where s to s2 is an edge.
use Rattle.std.proofs.Common.{ap, ◌∙◌, ◌≡◌, ◌<◌, suc, true, false, arith, rules, tests, lt-ltb}
use Rattle.std.proofs.Math.Dec.{eqb}
use Rattle.std.proofs.Math.Numerals.{add-one}
use Rattle.std.specs.Prelude.{List, ℕ, Bool, is_some}
use Rattle.std.proofs.lemmas.Iterator.{first_from_Range, serves_from_Range}
use Rattle.table.specs.Layout.{states_of, row_start, target}
use Rattle.table.specs.BlockOf.{block_of, edge_at}
use Rattle.table.specs.First.{first_in}
use Rattle.table.proofs.First.{first_found}
use Rattle.table.proofs.Rows.{row_starts_to}
use Rattle.table.proofs.read.has_edge.Goals as goal

-- target i is s2
abbrev pub leads : List ℕ → ℕ → ℕ → Bool
leads b s2 i = eqb (target b i) s2

pub find-requires-clause-callable : goal.find-requires-clause-callable
find-requires-clause-callable c =
    let b = c.args.bytes.now in
    let s = c.args.s in
    serves_from_Range (λ x q k. search (rules, tests)) (λ x low high.
    let to = row_starts_to b c.requires.well_formed.rows (suc s) (omega arith) in
    let e = ap (row_start b) (add-one s) in
    let f = c.row_start-2.ensures in
    let g = c.requires.states_value.0 in
    let h = c.requires.well_formed.size in
    search rules)

-- the row of s, from its start to the next row's
edge_in_row : (b : List ℕ) (s s2 : ℕ) {lo hi : ℕ} → s < states_of b → lo ≡ row_start b s → hi ≡ row_start b (suc s)
    → is_some (first_in lo hi (leads b s2)) ≡ (block_of b).edge s s2
unfolding block_of edge_at
edge_in_row b s s2 l f t = rw (f, t, lt-ltb s (states_of b) l)

pub returns : goal.returns
returns c =
    let b = c.args.bytes.now in
    let s = c.args.s in
    let s2 = c.args.s2 in
    let first : c.find.result ≡ first_in c.row_start.result c.row_start-2.result (leads b s2) = first_found _ _ (leads b s2) _ (first_from_Range _ _ _ _ (λ i. leads b s2 i ≡ true) (λ i. leads b s2 i ≡ false) c.find.ensures.ran
    (λ x q k. search (rules, tests)) (λ x q k. (search rules, search (rules, tests)))) in
    let from : c.row_start.result ≡ row_start b s = c.row_start.ensures ∙ ap (row_start b) (omega arith) in
    let to : c.row_start-2.result ≡ row_start b (suc s) = c.row_start-2.ensures ∙ ap (row_start b) (omega arith) in
    let found : c.is_some.result ≡ (block_of b).edge s s2 = c.is_some.ensures ∙ ap is_some first ∙ edge_in_row b s s2 (omega arith) from to in
    search (rules, tests)
