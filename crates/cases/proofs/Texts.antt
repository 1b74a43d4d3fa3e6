-- Texts that are written one after the other. Definitions in specs/Printed.antt.
use Rattle.std.proofs.Common.{◌≡◌, ℕ, ◌+◌, ◌<◌, List, [], ◌∷◌, length, get_or, take, Option, None, Some, Result, Ok, IsOk, sym, ap, ◌∙◌}
use Rattle.std.specs.Fmt.{DisplaysOnOk, ◌++?◌}
use Rattle.std.specs.declared.fmt.Formatter.{Formatter}
use Rattle.std.specs.declared.fmt.Error.{Error}
use Rattle.std.proofs.Output.{has_written_append}
use Rattle.std.proofs.lemmas.List.Sums.{fold_more}
use Rattle.cases.specs.Printed.{spaced}

-- one item more
pub spaced_more : {T : Type 0} (text : T → Option (List ℕ)) (items : List T) (i : ℕ) (item : T) → i < length items → item ≡ get_or items i item
    → spaced text (take (i + 1) items) ≡ spaced text (take i items) ++? Some (32 ∷ []) ++? text item
unfolding spaced
spaced_more text items i item h read =
    fold_more _ (Some []) items i item h ∙ ap (λ y. spaced text (take i items) ++? Some (32 ∷ []) ++? text y) (sym read)

module _ {W : Type 0} (took : W → List ℕ → W → Type 0) where
  -- p is written after o
  pub written_more : (f g h : Formatter W) (o p : Option (List ℕ)) (r : Result (Unit {0}) Error) → IsOk r
      → DisplaysOnOk took f (Ok tt) o g → DisplaysOnOk took g r p h → DisplaysOnOk took f (Ok tt) (o ++? p) h
  written_more f g h None p r ok before more = tt
  written_more f g h (Some a) None r ok before more = tt
  written_more f g h (Some a) (Some b) r ok before more = λ plain done.
      let so_far = before plain done in has_written_append _ _ _ _ _ _ so_far (more so_far.plain ok)
