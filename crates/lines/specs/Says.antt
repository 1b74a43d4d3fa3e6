-- What the two functions behind the programs say. docs/RULES.md, "What the programs print". Definitions only. Assumes nothing.
use Rattle.std.specs.Prelude.{List, ℕ, ◌<◌, length, Option, None, Some, Result, Ok, Err}
use Rattle.recorder.specs.Flag.{live_flag}
use Rattle.table.specs.declared.refusal.Refusal.{Refusal}
use Rattle.quote.specs.Quote.{quote_of}
use Rattle.search.specs.Searched.{SearchSays}
use Rattle.search.specs.declared.Lasso.{Lasso}
use Rattle.translation.specs.File.{file_of}
use Rattle.translation.specs.Translated.{refusal_of}
use Rattle.lines.specs.Text.{refused_line, verdict_of}
use Rattle.lines.specs.Puts.{Puts}

-- a lasso's states stand in the report
abbrev pub RunFits : Result (Option Lasso) Refusal → List ℕ → Type 0
RunFits (Ok (Some x)) report = x.k < length report
RunFits (Ok None) report = Unit
RunFits (Err why) report = Unit

-- a board has one of the eight letters
abbrev pub RowFits : Option ℕ → Type 0
RowFits (Some r) = r < 8
RowFits None = Unit

-- the table is searched with these buffers, and the output has the lines of verdict for what the search answered and reported
abbrev pub VerdictSays : List ℕ → List ℕ → List ℕ → List ℕ → ℕ → List ℕ → List ℕ → List ℕ → Type 0
VerdictSays b work report out r work' report' out' =
    (a : Result (Option Lasso) Refusal) × SearchSays b work report a work' report' × Puts (verdict_of (quote_of b) a report') 0 out r out'

-- the translated table, or the line of a refusal
abbrev pub translated_or : List ℕ → Option Refusal → List ℕ
translated_or b None = file_of live_flag b
translated_or b (Some why) = refused_line why

-- the output has the translated table where there is room for it, or else the `refused` line
abbrev pub TranslateWrites : List ℕ → List ℕ → ℕ → List ℕ → Type 0
TranslateWrites b out r out' = Puts (translated_or b (refusal_of b out)) 0 out r out'
