-- What moving a record along an edge answers. docs/RULES.md, "The recorder" (a step with a save wish) and lines 12 and 13 of "Refusal list".
-- Definitions only. Assumes nothing.
use Rattle.std.specs.Prelude.{Option, Some, None, Result, Ok, Err, Bool, not, ◌&&◌, List, [], ◌∷◌, ℕ, ◌^◌, leb, ltb}
use Rattle.recorder.specs.Block.{Block}
use Rattle.recorder.specs.Flag.{live_flag}
use Rattle.recorder.specs.Recorder.{step_of}
use Rattle.recorder.specs.declared.Record.{Record}
use Rattle.table.specs.Open.{refusal_for, open_of}
use Rattle.table.specs.Given.{given}
use Rattle.table.specs.BlockOf.{block_of}
use Rattle.table.specs.declared.refusal.Refusal.{Refusal}
use Rattle.table.specs.declared.refusal.Refusal.TheVariants.{WrongRecord, NoEdge}

-- of n states and m sets: s and s' below n, t at most n, v below 2^m
unfoldable pub record_fits : ℕ → ℕ → Record → ℕ → Bool
record_fits n m r s' = ltb r.s n && ltb s' n && leb r.t n && ltb r.v (2 ^ m)

-- lines 12 and 13, in the list's order
unfoldable pub step_lines : Block → Record → ℕ → List (Option Refusal)
step_lines B r s' = given (not (record_fits B.n B.m r s')) WrongRecord ∷ given (not (B.edge r.s s')) NoEdge ∷ []

-- what moving the record r to s' over the bytes b refuses
unfoldable pub refusal_of : List ℕ → Record → ℕ → Option Refusal
refusal_of b r s' = refusal_for (open_of b) (step_lines (block_of b) r s')

-- the refusal that is given, or the record r' where none is
abbrev pub moved_to : Record → Option Refusal → Result Record Refusal
moved_to r' None = Ok r'
moved_to r' (Some why) = Err why

-- what moving the record r to s' over the bytes b answers
unfoldable pub stepped_of : List ℕ → Record → ℕ → Bool → Result Record Refusal
stepped_of b r s' wish = moved_to (step_of live_flag (block_of b) r s' wish) (refusal_of b r s')
