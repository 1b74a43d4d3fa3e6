-- What a translation says. docs/RULES.md, "Refusal list", line 11, and "Buffers": "Translate changes exactly the first 32 + 5S + 4E bytes".
-- Definitions only. Assumes nothing.
use Rattle.std.specs.Prelude.{◌≡◌, List, [], ◌∷◌, ◌++◌, ℕ, ltb, length, drop, Result, Ok, Err, Option, None, Some}
use Rattle.recorder.specs.Flag.{live_flag}
use Rattle.table.specs.Layout.{states_of, edges_of, sets_of}
use Rattle.table.specs.Open.{refusal_for, open_of}
use Rattle.table.specs.Given.{given}
use Rattle.table.specs.Recording.{slots_of}
use Rattle.table.specs.declared.refusal.Refusal.{Refusal}
use Rattle.table.specs.declared.refusal.Refusal.TheVariants.{ShortOutput}
use Rattle.quote.specs.Sizes.{edge_count, translated_length}
use Rattle.translation.specs.File.{file_of}

-- 32 + 5S + 4E
abbrev pub size_of : List ℕ → ℕ
size_of b = translated_length (slots_of b) (edge_count (states_of b) (edges_of b) (sets_of b))

-- line 11: an output shorter than that
unfoldable pub translate_lines : ℕ → List ℕ → List (Option Refusal)
translate_lines size out = given (ltb (length out) size) ShortOutput ∷ []

unfoldable pub refusal_of : List ℕ → List ℕ → Option Refusal
refusal_of b out = refusal_for (open_of b) (translate_lines (size_of b) out)

-- A refused translation changes nothing. Any other writes the translated table over the first bytes of the output, as many as it has, and the rest
-- stays; the answer is that number.
abbrev pub TranslateFor : Option Refusal → List ℕ → List ℕ → Result ℕ Refusal → List ℕ → Type 0
TranslateFor (Some why) b out a out' = (a ≡ Err why) × (out' ≡ out)
TranslateFor None b out a out' = (a ≡ Ok (size_of b)) × (out' ≡ file_of live_flag b ++ drop (size_of b) out)

-- translating the bytes b into the output answers a and leaves the output as out'
unfoldable pub TranslateSays : List ℕ → List ℕ → Result ℕ Refusal → List ℕ → Type 0
TranslateSays b out a out' = TranslateFor (refusal_of b out) b out a out'
