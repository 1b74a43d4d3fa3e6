-- What quoting a table answers. docs/RULES.md, "Quote sheet". proofs/QuoteLaws.antt has the laws. Assumes nothing.
use Rattle.std.specs.Prelude.{Result, Ok, Err, List, [], ◌∷◌, ℕ}
use Rattle.recorder.specs.Slots.{slot_count}
use Rattle.table.specs.Open.{open_of}
use Rattle.table.specs.BlockOf.{block_of}
use Rattle.table.specs.declared.Table.{Table}
use Rattle.table.specs.declared.refusal.Refusal.{Refusal}
use Rattle.quote.specs.Sizes.{edge_count, translated_length}
use Rattle.quote.specs.Boards.{board_of}
use Rattle.quote.specs.Members.{members_of}
use Rattle.quote.specs.declared.Sheet.{Sheet}
use Rattle.quote.specs.declared.Quoted.{Quoted}

-- the quote sheet of an accepted table
unfoldable pub sheet_of : List ℕ → ℕ → ℕ → ℕ → Sheet
sheet_of b n e m =
    let S = slot_count n m in
    let E = edge_count n e m in
    let members = members_of (block_of b) in
    record {
      slots = S;
      edges = E;
      bytes = translated_length S E;
      members = members 0 ∷ members 1 ∷ members 2 ∷ members 3 ∷ [];
      board = board_of S E;
    }

-- the quote of an accepted table, or the refusal of any other
abbrev pub quoted_as : List ℕ → Result Table Refusal → Result Quoted Refusal
quoted_as b (Ok t) = Ok (record { table = t; sheet = sheet_of b t.states t.edges t.sets })
quoted_as b (Err why) = Err why

-- what quoting the bytes answers
unfoldable pub quote_of : List ℕ → Result Quoted Refusal
quote_of b = quoted_as b (open_of b)
