-- Laws of specs/Given.antt. Assumes nothing.
use Rattle.std.specs.Prelude.{◌≡◌, refl, Bool, true, false, ◌↔◌, List, [], ◌∷◌, ◌++◌, ℕ, Option, None, Some}
use Rattle.std.proofs.Common.{sym, true≢false}
use Rattle.std.proofs.lemmas.Option.{none-some}
use Rattle.table.specs.Given.{given, given_at, first_given}

-- ---- laws

module _ {A : Type 0} where
  -- a line that is not given: its test fails, or there is no such index
  pub test_off : (t : Bool) (r : A) → (given t r ≡ None) ↔ (t ≡ false)
  test_off true r = (λ e. absurd (none-some r (sym e)), λ e. absurd (true≢false e))
  test_off false r = (λ e. refl, λ e. refl)

  pub index_off : (o : Option ℕ) (r : ℕ → A) → (given_at o r ≡ None) ↔ (o ≡ None)
  index_off None r = (λ e. refl, λ e. refl)
  index_off (Some i) r = (λ e. absurd (none-some (r i) (sym e)), λ e. absurd (none-some i (sym e)))

  -- no line is given
  pub none_given : (o : Option A) (rs : List (Option A)) → (first_given (o ∷ rs) ≡ None) ↔ ((o ≡ None) × (first_given rs ≡ None))
  none_given None rs = (λ e. (refl, e), λ h. h.1)
  none_given (Some r) rs = (λ e. absurd (none-some r (sym e)), λ h. h.0)

  -- two lists, one after the other
  pub part_on : (xs ys : List (Option A)) (r : A) → first_given xs ≡ Some r → first_given (xs ++ ys) ≡ Some r
  part_on [] ys r e = absurd (none-some r e)
  part_on (None ∷ xs) ys r e = part_on xs ys r e
  part_on (Some x ∷ xs) ys r e = e

  pub part_off : (xs ys : List (Option A)) → first_given xs ≡ None → first_given (xs ++ ys) ≡ first_given ys
  part_off [] ys e = refl
  part_off (None ∷ xs) ys e = part_off xs ys e
  part_off (Some x ∷ xs) ys e = absurd (none-some x (sym e))

  pub none_in_parts : (xs ys : List (Option A)) → first_given (xs ++ ys) ≡ None → (first_given xs ≡ None) × (first_given ys ≡ None)
  none_in_parts [] ys e = (refl, e)
  none_in_parts (None ∷ xs) ys e = none_in_parts xs ys e
  none_in_parts (Some x ∷ xs) ys e = absurd (none-some x (sym e))
