-- Laws of specs/Says.antt. Assumes nothing.
use Rattle.std.specs.Prelude.{◌≡◌, Bool, List, ℕ}
use Rattle.std.proofs.Common.{sym, ap, ◌∙◌}
use Rattle.order.proofs.Settled.{both_settled}
use Rattle.recorder.specs.declared.Record.{Record}
use Rattle.search.proofs.Laws.{search_unique}
use Rattle.translation.proofs.Laws.{translate_unique}
use Rattle.lasso.specs.Words.{search_number, search_words, translate_number, translate_words}
use Rattle.lasso.specs.Says.{OpenSaid, QuoteSaid, StepSaid, SearchSaid, TranslateSaid}

-- ---- two results that meet a statement are equal

pub open_said_unique : (b : List ℕ) (x x' : ℕ) (a a' : List ℕ) → OpenSaid b x a → OpenSaid b x' a' → (x ≡ x') × (a ≡ a')
open_said_unique b x x' a a' = both_settled

pub quote_said_unique : (b : List ℕ) (x x' : ℕ) (a a' : List ℕ) → QuoteSaid b x a → QuoteSaid b x' a' → (x ≡ x') × (a ≡ a')
quote_said_unique b x x' a a' = both_settled

pub step_said_unique : (b : List ℕ) (r : Record) (s' : ℕ) (wish : Bool) (x x' : ℕ) (a a' : List ℕ)
    → StepSaid b r s' wish x a → StepSaid b r s' wish x' a' → (x ≡ x') × (a ≡ a')
step_said_unique b r s' wish x x' a a' = both_settled

pub search_said_unique : (b work report : List ℕ) (x x' : ℕ) (a a' w w' r r' : List ℕ)
    → SearchSaid b work report x a w r → SearchSaid b work report x' a' w' r' → (x ≡ x') × (a ≡ a') × (w ≡ w') × (r ≡ r')
search_said_unique b work report x x' a a' w w' r r' (f, s, (p, q)) (f', s', (p', q')) =
    let (e, u, v) = search_unique b work report f f' w w' r r' s s' in
    (p ∙ ap search_number e ∙ sym p', q ∙ ap search_words e ∙ sym q', u, v)

pub translate_said_unique : (b out : List ℕ) (x x' : ℕ) (a a' w w' : List ℕ)
    → TranslateSaid b out x a w → TranslateSaid b out x' a' w' → (x ≡ x') × (a ≡ a') × (w ≡ w')
translate_said_unique b out x x' a a' w w' (f, s, (p, q)) (f', s', (p', q')) =
    let (e, u) = translate_unique b out f f' w w' s s' in
    (p ∙ ap translate_number e ∙ sym p', q ∙ ap translate_words e ∙ sym q', u)
