-- What the five exported jobs say. proofs/Says.antt has that each statement settles number, words and buffers.
-- docs/RULES.md, "Strength of the statements". Assumes nothing.
use Rattle.std.specs.Prelude.{Option, Result, ◌≡◌, Bool, List, ℕ}
use Rattle.recorder.specs.declared.Record.{Record}
use Rattle.table.specs.Open.{open_of}
use Rattle.quote.specs.Quote.{quote_of}
use Rattle.stepping.specs.Step.{stepped_of}
use Rattle.search.specs.Searched.{SearchSays}
use Rattle.search.specs.declared.Lasso.{Lasso}
use Rattle.translation.specs.Translated.{TranslateSays}
use Rattle.table.specs.declared.refusal.Refusal.{Refusal}
use Rattle.lasso.specs.Words.{open_number, open_words, quote_number, quote_words, step_number, step_words, search_number, search_words, translate_number, translate_words}

-- the number and the words are those of opening's answer, of the quote, of the step's answer
abbrev pub OpenSaid : List ℕ → ℕ → List ℕ → Type 0
OpenSaid b number words = (number ≡ open_number (open_of b)) × (words ≡ open_words (open_of b))

abbrev pub QuoteSaid : List ℕ → ℕ → List ℕ → Type 0
QuoteSaid b number words = (number ≡ quote_number (quote_of b)) × (words ≡ quote_words (quote_of b))

abbrev pub StepSaid : List ℕ → Record → ℕ → Bool → ℕ → List ℕ → Type 0
StepSaid b r s' wish number words = (number ≡ step_number (stepped_of b r s' wish)) × (words ≡ step_words (stepped_of b r s' wish))

-- the number and the words are those of an answer that the search may give
abbrev pub SearchSaid : List ℕ → List ℕ → List ℕ → ℕ → List ℕ → List ℕ → List ℕ → Type 0
SearchSaid b work report number words work' report' =
    (a : Result (Option Lasso) Refusal) × SearchSays b work report a work' report' × ((number ≡ search_number a) × (words ≡ search_words a))

-- the number and the words are those of an answer that the translation may give
abbrev pub TranslateSaid : List ℕ → List ℕ → ℕ → List ℕ → List ℕ → Type 0
TranslateSaid b out number words out' =
    (a : Result ℕ Refusal) × TranslateSays b out a out' × ((number ≡ translate_number a) × (words ≡ translate_words a))
