-- Laws of specs/Written.antt. Assumes nothing.
use Rattle.std.specs.Prelude.{◌≡◌, Bool, List, [], ◌∷◌, ◌++◌, ℕ, ◌+◌, Ok, Err, Option, None, Some, Result}
use Rattle.std.proofs.Math.Path.{refl, ap, sym}
use Rattle.std.proofs.Common.{◌∙◌}
use Rattle.std.proofs.Math.Bool.{true, false}
use native.Mathlib.Omega.{arith}
use borrow.Author.Tests.{ltb-false}
use Rattle.std.proofs.Math.Dec.{ltb}
use Rattle.std.proofs.Math.ListN.{length, take, drop}
use Rattle.std.proofs.Math.Seq.{take_at}
use Rattle.recorder.specs.Flag.{live_flag}
use Rattle.table.specs.Open.{open_of}
use Rattle.table.specs.Given.{given, first_given}
use Rattle.table.specs.WellFormed.{WellFormed}
use Rattle.table.proofs.WellFormed.{well_formed}
use Rattle.table.specs.declared.refusal.Refusal.{Refusal}
use Rattle.table.specs.declared.refusal.Refusal.TheVariants.{ShortOutput}
use Rattle.writing.specs.Placed.{placed}
use Rattle.translation.specs.File.{file_of}
use Rattle.translation.proofs.Counts.{length_file}
use Rattle.translation.specs.Demand3.{Translates}
use Rattle.translation.proofs.Demand3.{translates_live}
use Rattle.translation.specs.Translated.{size_of, translate_lines, refusal_of, TranslateFor, TranslateSays}
use Rattle.translation.specs.Written.{WrittenSays}
use Rattle.table.specs.declared.Table.{Table}

-- a refusal writes nothing
refused_not_written : (why : Refusal) (size : ℕ) → Ok size ≡ Err why → ⊥
refused_not_written why size e = cc

same_size : (n m : ℕ) → let x : Result ℕ Refusal = Ok n in x ≡ Ok m → n ≡ m
same_size n m e = cc

same_refusal : (x y : Refusal) → let r : Result ℕ Refusal = Err x in r ≡ Err y → x ≡ y
same_refusal x y e = cc

module _ (b out : List ℕ) (size : ℕ) (out' : List ℕ) where
  pub written_says : TranslateSays b out (Ok size) out' → WrittenSays b out size out'
  unfolding TranslateSays refusal_of translate_lines placed
  written_says = go (open_of b) refl
    where
      lines : WellFormed b → (short : Bool) → ltb (length out) (size_of b) ≡ short → refusal_of b out ≡ first_given (given short ShortOutput ∷ [])
          → TranslateFor (first_given (given short ShortOutput ∷ [])) b out (Ok size) out' → WrittenSays b out size out'
      lines f true e r (w, d) = absurd (refused_not_written ShortOutput size w)
      lines f false e r (w, d) =
          let l : size ≡ size_of b = same_size size (size_of b) w in
          let k = length_file live_flag b f in
          let z : size_of b ≡ 0 + length (file_of live_flag b) = omega arith in
          record { sound = f; given = r; size_is = l ∙ sym k; room = omega (arith, ltb-false (length out) (size_of b) e); has = d ∙ ap (λ (k : ℕ). file_of live_flag b ++ drop k out) z }

      go : (x : Result Table Refusal) → open_of b ≡ x → TranslateSays b out (Ok size) out' → WrittenSays b out size out'
      go (Err why) o h = absurd (refused_not_written why size (rw o at h).0)
      go (Ok t) o h = lines (well_formed b t o) (ltb (length out) (size_of b)) refl (rw o) (rw o at h)

  pub written_translates : TranslateSays b out (Ok size) out' → Translates b (take size out')
  unfolding placed
  written_translates h =
      let s = written_says h in
      let l = s.size_is in
      let file = file_of live_flag b in
      let is : take size out' ≡ file = ap (take size) s.has ∙ take_at file (drop (0 + length file) out) size (sym l) in
      rw is (translates_live b s.sound)

-- a refusal leaves the output as it was
pub refused_leaves : (b out : List ℕ) (why : Refusal) (out' : List ℕ) → TranslateSays b out (Err why) out' → (refusal_of b out ≡ Some why) × (out' ≡ out)
unfolding TranslateSays
refused_leaves b out why out' h = go (refusal_of b out) refl h
  where
    go : (o : Option Refusal) → refusal_of b out ≡ o → TranslateFor o b out (Err why) out' → (refusal_of b out ≡ Some why) × (out' ≡ out)
    go None e (r, d) = absurd (refused_not_written why (size_of b) (sym r))
    go (Some why') e (r, d) = (e ∙ ap Some (same_refusal why' why (sym r)), d)
