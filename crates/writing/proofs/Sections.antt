-- A file of a header and three sections is read back, whatever follows it: number by number, and mark by mark. docs/RULES.md, "The table file".
-- Assumes nothing.
use Rattle.std.specs.Prelude.{◌≡◌, List, ◌++◌, ℕ, ◌+◌, ◌*◌, ◌<◌, length, get_or}
use Rattle.std.proofs.Common.{ap, ◌∙◌, arith, get_or-append-add}
use Rattle.std.proofs.Math.ListN.{get_or-append}
use Rattle.table.specs.Layout.{byte_at, word_at, little_endian}
use Rattle.writing.proofs.Little.{length_little, word_little, word_after}

-- the header's numbers, the row starts, the targets, the marks, and what follows
abbrev pub sections : List ℕ → List ℕ → List ℕ → List ℕ → List ℕ → List ℕ
sections header starts targets marks rest = little_endian header ++ (little_endian starts ++ (little_endian targets ++ (marks ++ rest)))

module _ (header starts targets marks rest : List ℕ) (seven : length header ≡ 7) where
  abbrev F : List ℕ
  F = sections header starts targets marks rest

  -- what follows the targets, the row starts and the header
  abbrev last : List ℕ
  last = marks ++ rest

  abbrev more : List ℕ
  more = little_endian targets ++ last

  abbrev most : List ℕ
  most = little_endian starts ++ more

  pub read_header : (i : ℕ) → i < 7 → get_or header i 0 < 4294967296 → word_at F (4 * i) ≡ get_or header i 0
  read_header i l h = word_little header most i (omega arith) h

  pub read_start : (i : ℕ) → i < length starts → get_or starts i 0 < 4294967296 → word_at F (28 + 4 * i) ≡ get_or starts i 0
  read_start i l h =
      let e : 28 + 4 * i ≡ length (little_endian header) + 4 * i = omega (arith, length_little header) in
      ap (word_at F) e ∙ word_after (little_endian header) most (4 * i) ∙ word_little starts more i l h

  pub read_target : (i : ℕ) → i < length targets → get_or targets i 0 < 4294967296 → word_at F (28 + 4 * length starts + 4 * i) ≡ get_or targets i 0
  read_target i l h =
      let e : 28 + 4 * length starts + 4 * i ≡ length (little_endian header) + (length (little_endian starts) + 4 * i) = omega (arith, length_little header, length_little starts) in
      ap (word_at F) e
      ∙ word_after (little_endian header) most (length (little_endian starts) + 4 * i)
      ∙ word_after (little_endian starts) more (4 * i)
      ∙ word_little targets last i l h

  pub read_mark : (i : ℕ) → i < length marks → byte_at F (28 + 4 * length starts + 4 * length targets + i) ≡ get_or marks i 0
  read_mark i l =
      let e : 28 + 4 * length starts + 4 * length targets + i ≡ length (little_endian header) + (length (little_endian starts) + (length (little_endian targets) + i)) =
      omega (arith, length_little header, length_little starts, length_little targets) in
      ap (byte_at F) e
      ∙ get_or-append-add (little_endian header) most (length (little_endian starts) + (length (little_endian targets) + i)) 0
      ∙ get_or-append-add (little_endian starts) more (length (little_endian targets) + i) 0
      ∙ get_or-append-add (little_endian targets) last i 0
      ∙ get_or-append marks rest 0 i l
