-- What a test's value says, as one statement for both ways: `simp` turns a test into its fact by these. Assumes nothing.
use Rattle.std.specs.Prelude.{◌≡◌, refl, Bool, true, false, not, ◌&&◌, ◌||◌, ◌↔◌, ℕ, ◌≤◌, ◌<◌, eqb, leb, ltb}
use Rattle.std.proofs.Common.{sym, true≢false, eqb-true, leb-true, leb-false, ltb-false, eq-eqb, ne_eqb, le-leb, le-ltb}
use Rattle.std.proofs.lemmas.Bool.{false≢true, eqb-false, lt-leb}
use Rattle.std.proofs.Math.Bool.{and-eq-true_iff}

pub neither_passes : (a b : Bool) → (a || b ≡ false) ↔ ((a ≡ false) × (b ≡ false))
neither_passes true b = (λ e. absurd (true≢false e), λ h. h.0)
neither_passes false b = (λ e. (refl, e), λ h. h.1)

-- not both: where the one passes, the other fails
pub not_both : (a b : Bool) → (a && b ≡ false) ↔ (a ≡ true → b ≡ false)
not_both true b = (λ e p. e, λ h. h refl)
not_both false b = (λ e p. absurd (false≢true p), λ h. refl)

pub not_fails : (a : Bool) → (not a ≡ false) ↔ (a ≡ true)
not_fails true = (λ e. refl, λ e. refl)
not_fails false = (λ e. sym e, λ e. sym e)

pub not_passes : (a : Bool) → (not a ≡ true) ↔ (a ≡ false)
not_passes true = (λ e. sym e, λ e. sym e)
not_passes false = (λ e. refl, λ e. refl)

pub passes_if_not_fails : (a : Bool) → ¬ (a ≡ false) → a ≡ true
passes_if_not_fails true h = refl
passes_if_not_fails false h = absurd (h refl)

pub fails_if_not_passes : (a : Bool) → ¬ (a ≡ true) → a ≡ false
fails_if_not_passes true h = absurd (h refl)
fails_if_not_passes false h = refl

pub eqb_passes : (m n : ℕ) → (eqb m n ≡ true) ↔ (m ≡ n)
eqb_passes m n = (eqb-true m n, eq-eqb m n)

pub eqb_fails : (m n : ℕ) → (eqb m n ≡ false) ↔ (¬ (m ≡ n))
eqb_fails m n = (eqb-false m n, ne_eqb m n)

pub leb_passes : (m n : ℕ) → (leb m n ≡ true) ↔ (m ≤ n)
leb_passes m n = (leb-true m n, le-leb m n)

pub leb_fails : (m n : ℕ) → (leb m n ≡ false) ↔ (n < m)
leb_fails m n = (leb-false m n, lt-leb m n)

pub ltb_fails : (m n : ℕ) → (ltb m n ≡ false) ↔ (n ≤ m)
ltb_fails m n = (ltb-false m n, le-ltb m n)

pub ruleset facts = (and-eq-true_iff, neither_passes, not_both, not_fails, not_passes, eqb_passes, eqb_fails, leb_passes, ltb_fails, leb_fails)
