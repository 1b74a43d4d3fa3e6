-- The header, written number by number. Assumes nothing.
use Rattle.std.specs.Prelude.{◌≡◌, List, [], ◌∷◌, ℕ, length}
use Rattle.std.proofs.Common.{◌∙◌, arith}
use Rattle.table.specs.Layout.{little_endian, rows_at, targets_at, marks_at}
use Rattle.writing.specs.File.{header_of}
use Rattle.writing.specs.Placed.{placed}
use Rattle.writing.proofs.Placed.{little_next, little_all}

-- the numbers of a header, put one after the other into a buffer of 28 bytes
pub header_written : (kind n e m : ℕ) (w : List ℕ) {w₁ w₂ w₃ w₄ w₅ w₆ w₇ : List ℕ} → length w ≡ rows_at
    → w₁ ≡ placed 0 (little_endian (kind ∷ [])) w → w₂ ≡ placed 4 (little_endian (n ∷ [])) w₁
    → w₃ ≡ placed 8 (little_endian (e ∷ [])) w₂ → w₄ ≡ placed 12 (little_endian (m ∷ [])) w₃ → w₅ ≡ placed 16 (little_endian (rows_at ∷ [])) w₄
    → w₆ ≡ placed 20 (little_endian (targets_at n ∷ [])) w₅ → w₇ ≡ placed 24 (little_endian (marks_at n e ∷ [])) w₆
    → w₇ ≡ little_endian (header_of kind n e m)
header_written kind n e m w l e₁ e₂ e₃ e₄ e₅ e₆ e₇ =
    let l₂ = little_next 0 4 (kind ∷ []) (n ∷ []) w e₁ e₂ (omega arith) (omega arith) in
    let l₃ = little_next 0 8 (kind ∷ n ∷ []) (e ∷ []) w l₂ e₃ (omega arith) (omega arith) in
    let l₄ = little_next 0 12 (kind ∷ n ∷ e ∷ []) (m ∷ []) w l₃ e₄ (omega arith) (omega arith) in
    let l₅ = little_next 0 16 (kind ∷ n ∷ e ∷ m ∷ []) (rows_at ∷ []) w l₄ e₅ (omega arith) (omega arith) in
    let l₆ = little_next 0 20 (kind ∷ n ∷ e ∷ m ∷ rows_at ∷ []) (targets_at n ∷ []) w l₅ e₆ (omega arith) (omega arith) in
    let l₇ = little_next 0 24 (kind ∷ n ∷ e ∷ m ∷ rows_at ∷ targets_at n ∷ []) (marks_at n e ∷ []) w l₆ e₇ (omega arith) (omega arith) in
    l₇ ∙ little_all (header_of kind n e m) w (omega arith)
