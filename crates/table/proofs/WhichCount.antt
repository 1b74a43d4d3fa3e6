-- Laws of specs/WhichCount.antt. Assumes nothing.
use Rattle.std.specs.Prelude.{◌≡◌, Bool, true, false, not, ◌↔◌, ℕ, ◌≤◌, ◌<◌, eqb, leb, ltb, length, Option, None, Some, Err}
use Rattle.std.proofs.Math.Path.{refl, sym, ap}
use Rattle.std.proofs.Common.{sym, ◌∙◌, true≢false, inl, inr, zero-le, arith}
use Rattle.std.proofs.lemmas.Bool.{false≢true}
use mathlib.Core.List.{List, [], ◌∷◌}
use Rattle.std.proofs.lemmas.Option.{none-some}
use Rattle.table.specs.Given.{given, first_given}
use Rattle.table.specs.Layout.{kind_of, states_of, edges_of, sets_of}
use Rattle.table.specs.Refusals.{number_of, place_of}
use Rattle.table.specs.Open.{outside, count_lines, row_lines, content_lines, lines_of, open_of}
use Rattle.table.proofs.Facts.{not_fails, eqb_passes, ltb_fails, leb_passes, leb_fails, passes_if_not_fails, fails_if_not_passes}
use Rattle.table.specs.LaidOut.{FromTo}
use Rattle.table.proofs.LaidOut.{inside}
use Rattle.table.specs.InOrder.{position_of, position_after, InOrderFrom, end, GivenIn}
use Rattle.table.proofs.InOrder.{past, after_sets, after_edges, after_states, after_kind, after_sets_lem, after_edges_lem, after_states_lem}
use Rattle.table.proofs.Stages.{stage_refuses, refuses_says}
use Rattle.table.specs.declared.refusal.Refusal.{Refusal}
use Rattle.table.specs.declared.refusal.Refusal.TheVariants.{TooShort, WrongKind, WrongStates, WrongEdges, WrongSets, WrongLayout, WrongRowStart, WrongTarget, EmptyRow, WrongMark, ShortWorkspace, ShortReport, ShortOutput, WrongRecord, NoEdge}
use Rattle.table.specs.WhichCount.{ClientHeader, Gives}

-- ---- a number and a place tell the refusal

-- the refusals, each at the place i where it has one
refusals_at : ℕ → List Refusal
refusals_at i =
    TooShort ∷ WrongKind ∷ WrongStates ∷ WrongEdges ∷ WrongSets ∷ WrongLayout ∷ WrongRowStart i ∷ WrongTarget i ∷ EmptyRow i ∷ WrongMark i ∷ ShortWorkspace
    ∷ ShortReport ∷ ShortOutput ∷ WrongRecord ∷ NoEdge ∷ []

-- the first of them with the number k
numbered : ℕ → List Refusal → Refusal
numbered k [] = NoEdge
numbered k (r ∷ rs) = elim (eqb k (number_of r)) [ true ↦ r | false ↦ numbered k rs ]

refusal_of : ℕ → ℕ → Refusal
refusal_of k i = numbered k (refusals_at i)

told : (r : Refusal) → refusal_of (number_of r) (place_of r) ≡ r
unfolding refusal_of numbered refusals_at
told TooShort = refl
told WrongKind = refl
told WrongStates = refl
told WrongEdges = refl
told WrongSets = refl
told WrongLayout = refl
told (WrongRowStart i) = refl
told (WrongTarget i) = refl
told (EmptyRow s) = refl
told (WrongMark s) = refl
told ShortWorkspace = refl
told ShortReport = refl
told ShortOutput = refl
told WrongRecord = refl
told NoEdge = refl

-- no two refusals have the same number and the same place
pub told_apart : (r r' : Refusal) → number_of r ≡ number_of r' → place_of r ≡ place_of r' → r ≡ r'
told_apart r r' n p = sym (told r) ∙ (λ i. refusal_of (n i) (p i)) ∙ told r'

-- ---- laws of a line before others

-- the first line that is given is one that is given
first_is_given : (ls : List (Option Refusal)) (r : Refusal) → first_given ls ≡ Some r → GivenIn r ls
first_is_given [] r e = absurd (none-some r e)
first_is_given (None ∷ ls) r e = inr (first_is_given ls r e)
first_is_given (Some x ∷ ls) r e = inl e

-- a line before that of r: r is the first exactly where it is not given and r is the first of the rest
pass : (t : Bool) (x r : Refusal) (ls : List (Option Refusal)) → position_of x < position_of r
    → (first_given (given t x ∷ ls) ≡ Some r) ↔ ((t ≡ false) × (first_given ls ≡ Some r))
pass true x r ls h = (λ e. absurd (let d : x ≡ r = cc in omega (arith, h, ap position_of d)), λ (f, e). absurd (true≢false f))
pass false x r ls h = (λ e. (refl, e), λ (f, e). e)

-- the line of r itself, before lines that stand after it
stop : (t : Bool) (r : Refusal) (ls : List (Option Refusal)) → InOrderFrom (position_after r) ls → (first_given (given t r ∷ ls) ≡ Some r) ↔ (t ≡ true)
stop true r ls k = (λ e. refl, λ e. refl)
stop false r ls k = (
  λ e. absurd (let h : position_after r ≤ position_of r = past (position_after r) ls k r (first_is_given ls r e) in omega arith),
  λ e. absurd (false≢true e),
)

-- the line of a count, where it is passed and where it is given
count_passed : (x low high : ℕ) (c r : Refusal) (ls : List (Option Refusal)) → position_of c < position_of r
    → (first_given (given (outside x low high) c ∷ ls) ≡ Some r) ↔ (FromTo x low high × (first_given ls ≡ Some r))
count_passed x low high c r ls h =
    let p = pass (outside x low high) c r ls h in
    let i = inside x low high in (
      λ e. let (f, g) = p.0 e in (i.0 f, g),
      λ (w, g). p.1 (i.1 w, g),
    )

count_given : (x low high : ℕ) (r : Refusal) (ls : List (Option Refusal)) → InOrderFrom (position_after r) ls
    → (first_given (given (outside x low high) r ∷ ls) ≡ Some r) ↔ (¬ FromTo x low high)
count_given x low high r ls k =
    let s = stop (outside x low high) r ls k in
    let i = inside x low high in (
      λ e w. true≢false (sym (s.0 e) ∙ i.1 w),
      λ h. s.1 (passes_if_not_fails _ (λ f. h (i.0 f))),
    )

-- lines 1 and 2, before that of r
header_passed : (b : List ℕ) (r : Refusal) (ls : List (Option Refusal)) → position_of WrongKind < position_of r
    → (first_given (given (ltb (length b) 28) TooShort ∷ given (not (eqb (kind_of b) 1)) WrongKind ∷ ls) ≡ Some r) ↔ (ClientHeader b × (first_given ls ≡ Some r))
header_passed b r ls h =
    let p = pass (ltb (length b) 28) TooShort r (given (not (eqb (kind_of b) 1)) WrongKind ∷ ls) (omega arith) in
    let q = pass (not (eqb (kind_of b) 1)) WrongKind r ls h in (
      λ e. let (l, f) = p.0 e in let (k, g) = q.0 f in (((ltb_fails _ _).0 l, (eqb_passes _ _).0 ((not_fails _).0 k)), g),
      λ ((l, k), g). p.1 ((ltb_fails _ _).1 l, q.1 ((not_fails _).1 ((eqb_passes _ _).1 k), g)),
    )

-- ---- the three statements
module _ (b : List ℕ) where
  -- opening gives the number of r, a refusal that has no place, exactly where r is the first of the table's lines that is given; its place is then 0
  first_line : (r : Refusal) → place_of r ≡ 0 → ((i : ℕ) → refusal_of (number_of r) i ≡ r) → (i : ℕ)
      → Gives b (number_of r) i ↔ ((i ≡ 0) × (first_given (lines_of b) ≡ Some r))
  unfolding open_of
  first_line r z only i = (
    λ (r', (e, (n, p))).
        let d : r' ≡ r = sym (told r') ∙ (λ j. refusal_of (n j) (place_of r')) ∙ only (place_of r') in
        (sym p ∙ ap place_of d ∙ z, refuses_says b (lines_of b) r (e ∙ ap Err d)),
    λ (q, e). (r, (sym (stage_refuses b (lines_of b) r e), (refl, z ∙ sym q))),
  )

  -- after lines 1 and 2: 3, with place 0, exactly where n is outside 1 to 64
  pub gives_3 : (i : ℕ) → Gives b 3 i ↔ ((i ≡ 0) × (ClientHeader b × ¬ FromTo (states_of b) 1 64))
  unfolding lines_of count_lines row_lines content_lines refusal_of numbered refusals_at
  gives_3 i =
      let f = first_line WrongStates refl (λ j. refl) i in
      let h = header_passed b WrongStates (after_kind b []) (omega arith) in
      let s = count_given (states_of b) 1 64 WrongStates (after_states b []) (after_states_lem b [] end) in (
        λ e. let (z, x) = f.0 e in let (c, g) = h.0 x in (z, (c, s.0 g)),
        λ (z, (c, o)). f.1 (z, h.1 (c, s.1 o)),
      )

  -- 14 exactly where n is inside and e is outside 1 to 1,024
  pub gives_14 : (i : ℕ) → Gives b 14 i ↔ ((i ≡ 0) × (ClientHeader b × (FromTo (states_of b) 1 64 × ¬ FromTo (edges_of b) 1 1024)))
  unfolding lines_of count_lines row_lines content_lines refusal_of numbered refusals_at
  gives_14 i =
      let f = first_line WrongEdges refl (λ j. refl) i in
      let h = header_passed b WrongEdges (after_kind b []) (omega arith) in
      let n = count_passed (states_of b) 1 64 WrongStates WrongEdges (after_states b []) (omega arith) in
      let s = count_given (edges_of b) 1 1024 WrongEdges (after_edges b []) (after_edges_lem b [] end) in (
        λ e. let (z, x) = f.0 e in let (c, g) = h.0 x in let (w, d) = n.0 g in (z, (c, (w, s.0 d))),
        λ (z, (c, (w, o))). f.1 (z, h.1 (c, n.1 (w, s.1 o))),
      )

  -- 15 exactly where both are inside and m is above 4
  pub gives_15 : (i : ℕ) → Gives b 15 i ↔ ((i ≡ 0) × (ClientHeader b × (FromTo (states_of b) 1 64 × (FromTo (edges_of b) 1 1024 × (4 < sets_of b)))))
  unfolding lines_of count_lines row_lines content_lines refusal_of numbered refusals_at
  gives_15 i =
      let f = first_line WrongSets refl (λ j. refl) i in
      let h = header_passed b WrongSets (after_kind b []) (omega arith) in
      let n = count_passed (states_of b) 1 64 WrongStates WrongSets (after_states b []) (omega arith) in
      let d = count_passed (edges_of b) 1 1024 WrongEdges WrongSets (after_edges b []) (omega arith) in
      let s = count_given (sets_of b) 0 4 WrongSets (after_sets b []) (after_sets_lem b [] end) in (
        λ e. let (z, x) = f.0 e in let (c, g) = h.0 x in let (v, k) = n.0 g in let (w, l) = d.0 k in (z, (c, (v, (w, above (sets_of b) (s.0 l))))),
        λ (z, (c, (v, (w, o)))). f.1 (z, h.1 (c, n.1 (v, d.1 (w, s.1 (λ y. let a = y.1 in omega arith))))),
      )
    where
      -- m has no low end
      above : (m : ℕ) → ¬ FromTo m 0 4 → 4 < m
      above m h = (leb_fails m 4).0 (fails_if_not_passes (leb m 4) (λ e. h (zero-le, (leb_passes m 4).0 e)))
