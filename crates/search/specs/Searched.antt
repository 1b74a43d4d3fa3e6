-- What a search says. docs/RULES.md, "Lasso and choice", lines 9 and 10 of "Refusal list", and "Buffers". Definitions only.
-- Assumes nothing.
use Rattle.std.specs.Prelude.{◌≡◌, List, [], ◌∷◌, ◌++◌, ℕ, suc, ◌*◌, ltb, length, drop, Option, Some, None, Result, Ok, Err}
use Rattle.recorder.specs.Block.{Block}
use Rattle.recorder.specs.Lasso.{LeastLasso, NoLasso}
use Rattle.table.specs.Open.{refusal_for, open_of}
use Rattle.table.specs.Given.{given}
use Rattle.table.specs.BlockOf.{block_of}
use Rattle.table.specs.declared.refusal.Refusal.{Refusal}
use Rattle.table.specs.declared.refusal.Refusal.TheVariants.{ShortWorkspace, ShortReport}
use Rattle.table.specs.Recording.{slots_of}
use Rattle.writing.specs.Cleared.{cleared}
use Rattle.search.specs.declared.Lasso.{Lasso}

-- lines 9 and 10, in the list's order: fewer than 2S workspace words, fewer than S report words
unfoldable pub search_lines : ℕ → List ℕ → List ℕ → List (Option Refusal)
search_lines S work report = given (ltb (length work) (2 * S)) ShortWorkspace ∷ given (ltb (length report) S) ShortReport ∷ []

unfoldable pub refusal_of : List ℕ → List ℕ → List ℕ → Option Refusal
refusal_of b work report = refusal_for (open_of b) (search_lines (slots_of b) work report)

-- Of a block: a lasso is its least lasso s0..sk, and the report's first k + 1 words are its states and the rest unchanged. None means that it has
-- no lasso of any length, and the report is unchanged.
abbrev pub AnswerSays : Block → List ℕ → Option Lasso → List ℕ → Type 0
AnswerSays B report (Some x) report' = (ss : List ℕ) × (length ss ≡ suc x.k) × LeastLasso B ss x.l × (report' ≡ ss ++ drop (length ss) report)
AnswerSays B report None report' = NoLasso B × (report' ≡ report)

-- A refused search changes no buffer. After any other the workspace's first 2S words are zero and the rest unchanged.
abbrev pub SearchFor : Option Refusal → List ℕ → List ℕ → List ℕ → Result (Option Lasso) Refusal → List ℕ → List ℕ → Type 0
SearchFor (Some why) b work report a work' report' = (a ≡ Err why) × (work' ≡ work) × (report' ≡ report)
SearchFor None b work report a work' report' =
    (x : Option Lasso) × (a ≡ Ok x) × AnswerSays (block_of b) report x report' × (work' ≡ cleared (2 * slots_of b) work)

-- searching the bytes b with these buffers answers a and leaves the buffers as work' and report'
unfoldable pub SearchSays : List ℕ → List ℕ → List ℕ → Result (Option Lasso) Refusal → List ℕ → List ℕ → Type 0
SearchSays b work report a work' report' = SearchFor (refusal_of b work report) b work report a work' report'
