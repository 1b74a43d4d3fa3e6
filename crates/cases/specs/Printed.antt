-- What a refusal and a list of numbers print as. Assumes nothing.
use Rattle.std.specs.Prelude.{Option, Some, List, [], ◌++◌, ℕ, codes, fold}
use Rattle.std.specs.Fmt.{decimal, ◌++?◌}
use Rattle.table.specs.declared.Refusal.{Refusal}
use Rattle.table.specs.Refusals.{number_of, place_of}

-- "refused", a refusal's number and its place
unfoldable pub refused_text : Refusal → List ℕ
refused_text why = codes "refused " ++ decimal (number_of why) ++ codes " " ++ decimal (place_of why)

-- the texts of the items, each with a space before it; unknown where one of them is
unfoldable pub spaced : {T : Type 0} → (T → Option (List ℕ)) → List T → Option (List ℕ)
spaced text items = fold (λ before item. before ++? Some (codes " ") ++? text item) (Some []) items
