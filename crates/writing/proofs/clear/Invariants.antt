-- After i turns the first i words are 0 and the rest is unchanged.
use Rattle.std.proofs.Common.{◌≡◌, ◌≤◌, ℕ, List, length}
use Rattle.writing.specs.Cleared.{cleared}
use Rattle.writing.proofs.clear.Given as goal

pub record Clearing (words₀ : List ℕ) (k : ℕ) (words : List ℕ) (i : ℕ) : Type 0 where
  pub to : i ≤ k
  -- the first i words are 0
  pub is : words ≡ cleared i words₀
  pub same_length : length words ≡ length words₀

abbrev pub invariant-loop-i : goal.invariant-loop-i
invariant-loop-i l = Clearing l.initial.words l.k l.words l.i
