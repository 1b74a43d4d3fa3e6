-- The number and the words of each answer, case by case. Assumes nothing.
use Rattle.std.specs.Prelude.{Result, Ok, Err, Option, Some, None, ◌≡◌, refl, List, [], ◌∷◌, ℕ, get_or}
use mir.Val.{bool_byte}
use Rattle.recorder.specs.declared.Record.{Record}
use Rattle.table.specs.Refusals.{number_of, place_of}
use Rattle.table.specs.declared.Table.{Table}
use Rattle.table.specs.declared.refusal.Refusal.{Refusal}
use Rattle.quote.specs.Quote.{quote_of}
use Rattle.quote.proofs.QuoteLaws.{four_members}
use Rattle.quote.specs.declared.Quoted.{Quoted}
use Rattle.search.specs.declared.Lasso.{Lasso}
use Rattle.translation.proofs.Asks.{byte_is_bit}
use Rattle.lasso.specs.Words.{board_number, open_number, open_words, quote_number, quote_words, search_number, search_words, translate_number, translate_words, step_number, step_words}

pub open_accepted : (o : Result Table Refusal) (t : Table) → o ≡ Ok t
    → (0 ≡ open_number o) × ((0 ∷ t.states ∷ t.edges ∷ t.sets ∷ []) ≡ open_words o)
open_accepted o t e = rw e (refl, refl)

pub open_refused : (o : Result Table Refusal) (why : Refusal) (number place : ℕ) → o ≡ Err why → number ≡ number_of why → place ≡ place_of why
    → (number ≡ open_number o) × ((place ∷ 0 ∷ 0 ∷ 0 ∷ []) ≡ open_words o)
open_refused o why number place e p q = rw (e, p, q) (refl, refl)

pub quote_told : (b : List ℕ) (q : Quoted) → Ok q ≡ quote_of b
    → let s = q.sheet in let ms = s.members in
    (0 ≡ quote_number (quote_of b))
    × ((0 ∷ s.slots ∷ s.edges ∷ s.bytes ∷ board_number s.board ∷ get_or ms 0 0 ∷ get_or ms 1 0 ∷ get_or ms 2 0 ∷ get_or ms 3 0 ∷ []) ≡ quote_words (quote_of b))
quote_told b q e = rw (← e, four_members b q e) (refl, refl)

pub quote_refused : (b : List ℕ) (why : Refusal) (number place : ℕ) → Err why ≡ quote_of b → number ≡ number_of why → place ≡ place_of why
    → (number ≡ quote_number (quote_of b)) × ((place ∷ 0 ∷ 0 ∷ 0 ∷ 0 ∷ 0 ∷ 0 ∷ 0 ∷ 0 ∷ []) ≡ quote_words (quote_of b))
quote_refused b why number place e p q = rw (← e, p, q) (refl, refl)

pub search_lasso : (a : Result (Option Lasso) Refusal) (k l : ℕ) → a ≡ Ok (Some (record { k = k; l = l })) → (0 ≡ search_number a) × ((0 ∷ 1 ∷ k ∷ l ∷ []) ≡ search_words a)
search_lasso a k l e = rw e (refl, refl)

pub search_holds : (a : Result (Option Lasso) Refusal) → a ≡ Ok None → (0 ≡ search_number a) × ((0 ∷ 0 ∷ 0 ∷ 0 ∷ []) ≡ search_words a)
search_holds a e = rw e (refl, refl)

pub search_refused : (a : Result (Option Lasso) Refusal) (why : Refusal) (number place : ℕ) → a ≡ Err why → number ≡ number_of why → place ≡ place_of why
    → (number ≡ search_number a) × ((place ∷ 0 ∷ 0 ∷ 0 ∷ []) ≡ search_words a)
search_refused a why number place e p q = rw (e, p, q) (refl, refl)

pub translate_written : (a : Result ℕ Refusal) (size : ℕ) → a ≡ Ok size → (0 ≡ translate_number a) × ((0 ∷ size ∷ []) ≡ translate_words a)
translate_written a size e = rw e (refl, refl)

pub translate_refused : (a : Result ℕ Refusal) (why : Refusal) (number place : ℕ) → a ≡ Err why → number ≡ number_of why → place ≡ place_of why
    → (number ≡ translate_number a) × ((place ∷ 0 ∷ []) ≡ translate_words a)
translate_refused a why number place e p q = rw (e, p, q) (refl, refl)

pub step_moved : (a : Result Record Refusal) (r : Record) → a ≡ Ok r
    → (0 ≡ step_number a) × ((0 ∷ r.s ∷ r.t ∷ bool_byte r.live ∷ r.v ∷ []) ≡ step_words a)
step_moved a r e = rw (e, byte_is_bit r.live) (refl, refl)

pub step_refused : (a : Result Record Refusal) (why : Refusal) (number place : ℕ) → a ≡ Err why → number ≡ number_of why → place ≡ place_of why
    → (number ≡ step_number a) × ((place ∷ 0 ∷ 0 ∷ 0 ∷ 0 ∷ []) ≡ step_words a)
step_refused a why number place e p q = rw (e, p, q) (refl, refl)
