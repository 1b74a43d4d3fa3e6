-- Where a statement says that an answer is a certain value, two answers that meet it are equal; and so for an answer beside the words that it leaves.
-- Assumes nothing.
use Rattle.std.specs.Prelude.{◌≡◌}
use Rattle.std.proofs.Common.{sym, ◌∙◌}

pub settled : {A : Type 0} {x a b : A} → a ≡ x → b ≡ x → a ≡ b
settled p q = p ∙ sym q

pub both_settled : {A B : Type 0} {x a a' : A} {y b b' : B} → (a ≡ x) × (b ≡ y) → (a' ≡ x) × (b' ≡ y) → (a ≡ a') × (b ≡ b')
both_settled (p, q) (p', q') = (settled p p', settled q q')
