-- Laws of specs/Quote.antt. Assumes nothing.
use Rattle.std.specs.Prelude.{Result, Ok, Err, ◌≡◌, List, [], ◌∷◌, ℕ, get_or}
use Rattle.std.proofs.Common.{true≢false}
use Rattle.order.proofs.Settled.{settled}
use Rattle.table.specs.Open.{open_of}
use Rattle.table.specs.declared.Table.{Table}
use Rattle.table.specs.declared.refusal.Refusal.{Refusal}
use Rattle.quote.specs.declared.Sheet.{Sheet}
use Rattle.quote.specs.declared.Quoted.{Quoted}
use Rattle.quote.specs.Quote.{sheet_of, quoted_as, quote_of}

-- the sheet of the table that was opened makes the quote
pub quote_is : (b : List ℕ) (t : Table) → Ok t ≡ open_of b → (s : Sheet) → s ≡ sheet_of b t.states t.edges t.sets
    → Ok (record { table = t; sheet = s }) ≡ quote_of b
unfolding quote_of
quote_is b t e s q = rw (← e, q)

-- and its refusal is the quote's
pub quote_refused : (b : List ℕ) (why : Refusal) → Err why ≡ open_of b → Err why ≡ quote_of b
unfolding quote_of
quote_refused b why e = rw (← e)

-- the sheet has four numbers of members
pub four_members : (b : List ℕ) (q : Quoted) → Ok q ≡ quote_of b
    → let ms = q.sheet.members in (get_or ms 0 0 ∷ get_or ms 1 0 ∷ get_or ms 2 0 ∷ get_or ms 3 0 ∷ []) ≡ ms
unfolding quote_of sheet_of
four_members b q = go (open_of b)
  where
    go : (o : Result Table Refusal) → Ok q ≡ quoted_as b o → let ms = q.sheet.members in (get_or ms 0 0 ∷ get_or ms 1 0 ∷ get_or ms 2 0 ∷ get_or ms 3 0 ∷ []) ≡ ms
    go (Ok t) e = let d : q ≡ record { table = t; sheet = sheet_of b t.states t.edges t.sets } = cc in rw d
    go (Err why) e = absurd (true≢false cc)

-- what `quote` says settles its answer
pub quote_settled : (b : List ℕ) (x y : Result Quoted Refusal) → x ≡ quote_of b → y ≡ quote_of b → x ≡ y
quote_settled b x y p q = settled p q
