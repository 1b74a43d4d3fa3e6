-- The boards and the board rule. docs/RULES.md, "Quote sheet": the first row with room for both S and E, rows numbered 0 to 7, or none. Definitions
-- only. Assumes nothing.
use Rattle.std.specs.Prelude.{Option, Bool, ◌&&◌, List, [], ◌∷◌, ℕ, leb, get_or}
use Rattle.table.specs.First.{first_in}
use Rattle.quote.specs.declared.boards.Board.{Board}

-- rows A to H
unfoldable pub boards : List Board
boards =
    record { slots = 64; edges = 256 }
    ∷ record { slots = 256; edges = 1024 }
    ∷ record { slots = 1024; edges = 4096 }
    ∷ record { slots = 4096; edges = 16384 }
    ∷ record { slots = 8192; edges = 65536 }
    ∷ record { slots = 16384; edges = 131072 }
    ∷ record { slots = 32768; edges = 262144 }
    ∷ record { slots = 65536; edges = 1048576 }
    ∷ []

-- row r has room for both S and E
unfoldable pub has_room : ℕ → ℕ → ℕ → Bool
unfolding boards
has_room S E r = let board = get_or boards r (record { slots = 0; edges = 0 }) in leb S board.slots && leb E board.edges

unfoldable pub board_of : ℕ → ℕ → Option ℕ
board_of S E = first_in 0 8 (has_room S E)
