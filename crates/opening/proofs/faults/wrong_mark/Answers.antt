-- `find` gives the first state with a mark of 2^(2+m) or more, which is 4 shifted by m.
use Rattle.std.proofs.Common.{ap, ◌≡◌, ◌∙◌, ℕ, ◌^◌, ◌+◌, ◌*◌, ◌%◌, ◌≤◌, sym, true, false, arith, rules, tests}
use Rattle.std.proofs.Math.Pow.{pow-add, shl_exact}
use Rattle.std.proofs.lemmas.Iterator.{first_from_Range}
use Rattle.table.specs.First.{first_in}
use Rattle.table.specs.Layout.{sets_of}
use Rattle.table.specs.Open.{mark_wrong}
use Rattle.table.proofs.First.{first_found}
use Rattle.opening.proofs.faults.wrong_mark.Goals as goal

-- 4 shifted by m is 2^(2+m)
limit_is : (m m' : ℕ) → m ≡ m' → m ≤ 4 → (4 * 2 ^ m) % 2 ^ 64 ≡ 2 ^ (2 + m')
limit_is m m' e h = shl_exact 3 m 64 (omega arith) (omega arith) ∙ sym (pow-add 2 2 m) ∙ ap (λ (m : ℕ). 2 ^ (2 + m)) e

pub returns : goal.returns
unfolding mark_wrong
returns c =
    let b = c.args.bytes.now in
    let limit = limit_is _ (sets_of b) c.requires.sets_are c.requires.sets_to in
    let found : c.find.result ≡ first_in 0 c.args.t.states (mark_wrong b) = first_found _ _ (mark_wrong b) _ (first_from_Range _ _ _ _ (λ s. mark_wrong b s ≡ true) (λ s. mark_wrong b s ≡ false) c.find.ensures.ran
    (λ s q k. search (rules, tests)) (λ s q k. (search rules, search (rules, tests)))) in
    found ∙ ap (λ n. first_in 0 n (mark_wrong b)) c.requires.states_are
