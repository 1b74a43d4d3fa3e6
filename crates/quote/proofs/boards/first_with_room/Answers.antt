-- `position` gives the first row with room for both.
use Rattle.std.specs.Prelude.{◌≡◌, ◌&&◌, ◌<◌, Bool, true, false, ℕ, Option, Some, None, MatchOption, leb}
use Rattle.std.specs.List.{AllWithin, HoldsAt}
use Rattle.std.proofs.Common.{rules, tests, zero-le}
use Rattle.std.proofs.lemmas.Iterator.{IsFirst-from_position, YieldsList-from_slice}
use Rattle.table.proofs.First.{first_found}
use Rattle.quote.specs.Boards.{boards, has_room, board_of}
use Rattle.quote.specs.declared.boards.Board.{Board}
use Rattle.quote.proofs.boards.first_with_room.Goals as goal

-- the test of a row
fits : ℕ → ℕ → Board → Bool
fits S E row = leb S row.slots && leb E row.edges

-- said of the rows' numbers
by_number : (S E : ℕ) (r : Option ℕ)
    → MatchOption r (AllWithin (λ row. fits S E row ≡ false) boards 0 8)
    (λ i. (i < 8) × HoldsAt (λ row. fits S E row ≡ true) boards i × AllWithin (λ row. fits S E row ≡ false) boards 0 i)
    → r ≡ board_of S E
unfolding board_of has_room fits
by_number S E None h = first_found 0 8 (has_room S E) None (λ j l k. h j (record { slots = 0; edges = 0 }) l k)
by_number S E (Some i) (l, p, n) =
    first_found 0 8 (has_room S E) (Some i) (zero-le, l, p (record { slots = 0; edges = 0 }), λ j a b. n j (record { slots = 0; edges = 0 }) a b)

pub returns : goal.returns
unfolding boards fits
returns c =
    by_number c.args.slots c.args.edges _ (IsFirst-from_position _ _ _ (λ row. fits c.args.slots c.args.edges row ≡ true) (λ row. fits c.args.slots c.args.edges row ≡ false)
    c.position.ensures.ran (YieldsList-from_slice boards cc) (λ x q k. search (rules, tests)) (λ x q k. (search rules, search (rules, tests))))
