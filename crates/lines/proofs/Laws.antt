-- The lines, part by part, as the proofs cite them: what is written is the line of docs/RULES.md, "What the programs print". Then that the two
-- statements settle what is written. Assumes nothing.
use Rattle.std.specs.Prelude.{◌≡◌, refl, List, [], ◌∷◌, ◌++◌, ℕ, suc, ◌+◌, ◌<◌, length, take, drop, Option, None, Some, Result, Ok, Err, Bool}
use Rattle.std.proofs.Common.{sym, ap, ◌∙◌, subst, arith, length-append}
use Rattle.table.specs.Refusals.{number_of, place_of}
use Rattle.table.specs.declared.Table.{Table}
use Rattle.table.specs.declared.refusal.Refusal.{Refusal}
use Rattle.table.specs.Open.{open_of}
use Rattle.table.specs.First.{first_in}
use Rattle.table.proofs.First.{first_some}
use Rattle.quote.specs.Boards.{board_of}
use Rattle.quote.specs.Quote.{sheet_of, quoted_as, quote_of}
use Rattle.quote.specs.declared.Quoted.{Quoted}
use Rattle.search.specs.Searched.{refusal_of, SearchFor, SearchSays}
use Rattle.search.specs.declared.Lasso.{Lasso}
use Rattle.search.proofs.Laws.{search_unique}
use Rattle.translation.specs.Translated.{TranslateSays}
use Rattle.translation.proofs.Written.{written_says, refused_leaves}
use Rattle.lines.specs.Text.{numbers_of, line_of, board_word, none_word, refused_word, lasso_word, run_word, holds_word, board_line, sheet_lines, refused_line, answer_lines, verdict_of}
use Rattle.lines.specs.Puts.{Puts}
use Rattle.lines.specs.Says.{RowFits, RunFits, VerdictSays, TranslateWrites}

module _ {from to : ℕ} {w w' : List ℕ} where
  -- the same text by another name
  pub puts_as : {xs ys : List ℕ} → xs ≡ ys → Puts xs from w to w' → Puts ys from w to w'
  puts_as e p = subst (λ (l : List ℕ). Puts l from w to w') e p

  module _ (board : Option ℕ) where
    pub puts_letter : (r : ℕ) → board ≡ Some r → Puts (board_word ++ ((65 + r) ∷ 10 ∷ [])) from w to w' → Puts (board_line board) from w to w'
    puts_letter r e p = puts_as (rw e refl) p

    pub puts_no_board : board ≡ None → Puts (board_word ++ none_word ++ (10 ∷ [])) from w to w' → Puts (board_line board) from w to w'
    puts_no_board e p = puts_as (rw e refl) p

  pub puts_refused : (why : Refusal) (number place : ℕ) → number ≡ number_of why → place ≡ place_of why
      → Puts (line_of refused_word (number ∷ place ∷ [])) from w to w' → Puts (refused_line why) from w to w'
  puts_refused why number place e f p = puts_as (rw (e, f) refl) p

  module _ (a : Result (Option Lasso) Refusal) (report : List ℕ) where
    pub puts_lasso : (x : Lasso) → a ≡ Ok (Some x) → Puts (line_of lasso_word (x.k ∷ x.l ∷ []) ++ line_of run_word (take (x.k + 1) report)) from w to w'
        → Puts (answer_lines a report) from w to w'
    puts_lasso x e p = let s : x.k + 1 ≡ suc x.k = omega arith in puts_as (rw (e, s) refl) p

    pub puts_holds : a ≡ Ok None → Puts (holds_word ++ (10 ∷ [])) from w to w' → Puts (answer_lines a report) from w to w'
    unfolding numbers_of
    puts_holds e p = puts_as (rw e refl) p

    pub puts_answer_refused : (why : Refusal) → a ≡ Err why → Puts (refused_line why) from w to w' → Puts (answer_lines a report) from w to w'
    puts_answer_refused why e p = puts_as (rw e refl) p

    module _ (b : List ℕ) where
      pub puts_table_refused : (why : Refusal) → Err why ≡ quote_of b → Puts (refused_line why) from w to w' → Puts (verdict_of (quote_of b) a report) from w to w'
      puts_table_refused why e p = puts_as (rw (← e) refl) p

      pub puts_verdict : (q : Quoted) → Ok q ≡ quote_of b → Puts (sheet_lines q.sheet ++ answer_lines a report) from w to w'
          → Puts (verdict_of (quote_of b) a report) from w to w'
      puts_verdict q e p = puts_as (rw (← e) refl) p

-- a lasso whose states stand in the report
pub lasso_fits : (a : Result (Option Lasso) Refusal) (report : List ℕ) (x : Lasso) → a ≡ Ok (Some x) → RunFits a report → x.k < length report
lasso_fits a report x e f = rw e at f

-- a lasso that was reported has its states in the report
pub run_fits : (b work report : List ℕ) (a : Result (Option Lasso) Refusal) (work' report' : List ℕ) → SearchSays b work report a work' report' → RunFits a report'
unfolding SearchSays
run_fits b work report a work' report' s = go a (refusal_of b work report) s
  where
    go : (a : Result (Option Lasso) Refusal) (o : Option Refusal) → SearchFor o b work report a work' report' → RunFits a report'
    go (Ok (Some x)) None (Some y, e, (ss, n, least, r), c) =
        let d : x.k ≡ y.k = cc in omega (arith, ap length r, length-append ss (drop (length ss) report))
    go (Ok (Some x)) None (None, e, s, c) = absurd (cc)
    go (Ok (Some x)) (Some why) (e, c, d) = absurd (cc)
    go (Ok None) o s = tt
    go (Err why) o s = tt

-- the board of a quote is one of the eight rows
pub row_fits : (b : List ℕ) (q : Quoted) → Ok q ≡ quote_of b → RowFits q.sheet.board
unfolding quote_of sheet_of board_of
row_fits b q = go (open_of b)
  where
    row : (o : Option ℕ) (P : ℕ → Bool) → first_in 0 8 P ≡ o → RowFits o
    row None P e = tt
    row (Some r) P e = ((first_some 0 8 P r).0 e).below

    go : (o : Result Table Refusal) → Ok q ≡ quoted_as b o → RowFits q.sheet.board
    go (Ok t) e = let d : q ≡ record { table = t; sheet = sheet_of b t.states t.edges t.sets } = cc in rw d (row _ _ refl)
    go (Err why) e = absurd (cc)

-- ---- translate

pub puts_written : (b out : List ℕ) (a : Result ℕ Refusal) (size : ℕ) (out' : List ℕ) → a ≡ Ok size → TranslateSays b out a out' → TranslateWrites b out size out'
puts_written b out a size out' e s =
    let h = written_says b out size out' (rw e at s) in
    let l = h.size_is in
    rw h.given (record { has = h.has; ends = omega arith; room = h.room })

pub puts_not_written : (b out : List ℕ) (a : Result ℕ Refusal) (why : Refusal) (w : List ℕ) (r : ℕ) (out' : List ℕ) → a ≡ Err why → TranslateSays b out a w
    → Puts (refused_line why) 0 w r out' → TranslateWrites b out r out'
puts_not_written b out a why w r out' e s p =
    let (given, same) = refused_leaves b out why w (rw e at s) in
    rw (given, sym same) p

-- ---- what is written is settled

-- a text in a buffer, the buffer afterwards and the place after it
pub puts_unique : {text : List ℕ} {from : ℕ} {w : List ℕ} {to to₁ : ℕ} {w' w₁ : List ℕ} → Puts text from w to w' → Puts text from w to₁ w₁ → (to ≡ to₁) × (w' ≡ w₁)
puts_unique p q = (p.ends ∙ sym q.ends, p.has ∙ sym q.has)

pub verdict_unique : (b work report out : List ℕ) (r r₁ : ℕ) (w w₁ s s₁ o o₁ : List ℕ)
    → VerdictSays b work report out r w s o → VerdictSays b work report out r₁ w₁ s₁ o₁ → (r ≡ r₁) × (w ≡ w₁) × (s ≡ s₁) × (o ≡ o₁)
verdict_unique b work report out r r₁ w w₁ s s₁ o o₁ (a, h, p) (a₁, h₁, p₁) =
    let (e, f, g) = search_unique b work report a a₁ w w₁ s s₁ h h₁ in
    let p₂ : Puts (verdict_of (quote_of b) a s) 0 out r₁ o₁ = rw (e, g) p₁ in
    let (x, y) = puts_unique p p₂ in
    (x, f, g, y)

pub translate_writes_unique : (b out : List ℕ) (r r₁ : ℕ) (o o₁ : List ℕ) → TranslateWrites b out r o → TranslateWrites b out r₁ o₁ → (r ≡ r₁) × (o ≡ o₁)
translate_writes_unique b out r r₁ o o₁ = puts_unique
