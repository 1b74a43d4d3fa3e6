-- Laws of a search: its answer line by line of the refusal list, and that its statement settles the answer and both buffers.
-- docs/RULES.md, "Refusal list" and "Strength of the statements". Assumes nothing.
use Rattle.std.specs.Prelude.{◌≡◌, Bool, List, [], ◌∷◌, ◌++◌, ℕ, ◌*◌, ◌≤◌, ◌<◌, ltb, length, drop, Option, Some, None, Result, Ok, Err}
use Rattle.std.proofs.Math.Path.{refl}
use Rattle.std.proofs.Common.{sym, ap, ap₂, ◌∙◌, arith, lt-ltb, le-ltb}
use Rattle.recorder.specs.Block.{Block, Sound}
use Rattle.recorder.proofs.Least.{least_of_block}
use Rattle.recorder.specs.Slots.{slot_count}
use Rattle.table.specs.Open.{open_of}
use Rattle.table.specs.Given.{given, first_given}
use Rattle.table.specs.InOrder.{end, ByTheList, position_after}
use Rattle.table.proofs.InOrder.{line, by_the_list}
use Rattle.table.specs.BlockOf.{block_of}
use Rattle.table.proofs.WellFormed.{well_formed, laid}
use Rattle.table.proofs.Sound.{sound}
use Rattle.table.specs.declared.Table.{Table}
use Rattle.table.specs.declared.refusal.Refusal.{Refusal}
use Rattle.table.specs.declared.refusal.Refusal.TheVariants.{WrongMark, ShortWorkspace, ShortReport}
use Rattle.table.specs.Recording.{slots_of}
use Rattle.table.proofs.Recording.{slots_few}
use Rattle.search.specs.Find.{FindAsks, FindSays}
use Rattle.search.specs.Searched.{search_lines, refusal_of, AnswerSays, SearchFor, SearchSays}
use Rattle.search.specs.declared.Lasso.{Lasso}

module _ (b work report : List ℕ) where
  -- ---- the answer, line by line

  -- a refused search
  refused_says : (why : Refusal) → refusal_of b work report ≡ Some why → SearchSays b work report (Err why) work report
  unfolding SearchSays
  refused_says why e = rw e (refl, refl, refl)

  pub table_refused : (why : Refusal) → open_of b ≡ Err why → SearchSays b work report (Err why) work report
  unfolding refusal_of
  table_refused why o = refused_says why (rw o)

  module _ (t : Table) (o : open_of b ≡ Ok t) where
    -- the two lines, by what their tests give
    lines_are : {u v : Bool} → ltb (length work) (2 * slots_of b) ≡ u → ltb (length report) (slots_of b) ≡ v
        → refusal_of b work report ≡ first_given (given u ShortWorkspace ∷ given v ShortReport ∷ [])
    unfolding refusal_of search_lines
    lines_are p q = rw o (ap₂ (λ (u v : Bool). first_given (given u ShortWorkspace ∷ given v ShortReport ∷ [])) p q)

    pub short_workspace : length work < 2 * slots_of b → SearchSays b work report (Err ShortWorkspace) work report
    short_workspace h = refused_says ShortWorkspace (lines_are (lt-ltb _ _ h) refl)

    pub short_report : 2 * slots_of b ≤ length work → length report < slots_of b → SearchSays b work report (Err ShortReport) work report
    short_report g h = refused_says ShortReport (lines_are (le-ltb _ _ g) (lt-ltb _ _ h))

    pub finds : 2 * slots_of b ≤ length work → slots_of b ≤ length report → (x : Option Lasso) (work' report' : List ℕ) → FindSays b work report x work' report'
        → SearchSays b work report (Ok x) work' report'
    unfolding SearchSays
    finds g h x work' report' (s, e) = rw (lines_are (le-ltb _ _ g) (le-ltb _ _ h)) (x, refl, s, e)

    -- ---- along the code, which counts the slots of the table
    pub counts_bound : (t.states ≤ 64) × (t.sets ≤ 8)
    counts_bound = let l = laid _ _ o in (l.states_to, omega (arith, l.sets_to))

    module _ {S : ℕ} (count : S ≡ slot_count t.states t.sets) where
      slots_are : S ≡ slots_of b
      slots_are = let l = laid _ _ o in count ∙ ap₂ slot_count l.states_are l.sets_are

      pub slots_small : S < 4294967295
      slots_small = omega (arith, slots_are, slots_few b (well_formed _ _ o))

      pub work_refused : length work < 2 * S → SearchSays b work report (Err ShortWorkspace) work report
      work_refused h = short_workspace (rw slots_are at h)

      module _ (g : 2 * S ≤ length work) where
        pub report_refused : length report < S → SearchSays b work report (Err ShortReport) work report
        report_refused h = short_report (rw slots_are at g) (rw slots_are at h)

        module _ (h : S ≤ length report) where
          pub find_asks : FindAsks b t S work report
          find_asks = record { formed = well_formed _ _ o; laid = laid _ _ o; slots_are = slots_are; work_room = g; report_room = h }

          pub found : (x : Option Lasso) (work' report' : List ℕ) → FindSays b work report x work' report' → SearchSays b work report (Ok x) work' report'
          found = finds (rw slots_are at g) (rw slots_are at h)

-- ---- its lines stand in the list's order, after the table's, and the first that is given is the refusal

pub search_by_the_list : (b work report : List ℕ) → ByTheList b (search_lines (slots_of b) work report) (refusal_of b work report)
unfolding refusal_of search_lines
search_by_the_list b work report =
    let last = line (position_after ShortWorkspace) (ltb (length report) (slots_of b)) ShortReport [] (omega arith) end in
    by_the_list b _ (line (position_after (WrongMark 0)) (ltb (length work) (2 * slots_of b)) ShortWorkspace _ (omega arith) last)

-- ---- two results that meet the statement, answer and both buffers, are equal

-- the same answer and the same report
answer_unique : (B : Block) → Sound B → (report : List ℕ) (x x' : Option Lasso) (r r' : List ℕ) → AnswerSays B report x r → AnswerSays B report x' r' → (x ≡ x') × (r ≡ r')
answer_unique B ok report (Some x) (Some x') r r' (ss, n, m, e) (ss', n', m', e') =
    let (p, q) = (least_of_block B ok).unique ss ss' x.l x'.l m m' in
    (ap₂ (λ (k l : ℕ). Some (record { k = k; l = l })) (omega (arith, ap length p)) q, e ∙ ap (λ (x : List ℕ). x ++ drop (length x) report) p ∙ sym e')
answer_unique B ok report (Some x) None r r' (ss, n, m, e) (h, e') = absurd (h ss x.l m.is)
answer_unique B ok report None (Some x) r r' (h, e) (ss, n, m, e') = absurd (h ss x.l m.is)
answer_unique B ok report None None r r' (h, e) (h', e') = (refl, e ∙ sym e')

pub search_unique : (b work report : List ℕ) (a a' : Result (Option Lasso) Refusal) (w w' r r' : List ℕ) → SearchSays b work report a w r → SearchSays b work report a' w' r'
    → (a ≡ a') × (w ≡ w') × (r ≡ r')
unfolding SearchSays refusal_of
search_unique b work report a a' w w' r r' = go (open_of b) refl
  where
    lines : Sound (block_of b) → (o : Option Refusal) → SearchFor o b work report a w r → SearchFor o b work report a' w' r' → (a ≡ a') × (w ≡ w') × (r ≡ r')
    lines ok (Some why) (p, q, s) (p', q', s') = (p ∙ sym p', q ∙ sym q', s ∙ sym s')
    lines ok None (x, d, h, e) (x', d', h', e') =
        let (p, q) = answer_unique (block_of b) ok report x x' r r' h h' in (d ∙ ap (λ (x : Option Lasso). Ok x) p ∙ sym d', e ∙ sym e', q)

    go : (x : Result Table Refusal) → open_of b ≡ x → SearchSays b work report a w r → SearchSays b work report a' w' r' → (a ≡ a') × (w ≡ w') × (r ≡ r')
    go (Err why) o h h' = let (p, q, s) = rw o at h in let (p', q', s') = rw o at h' in (p ∙ sym p', q ∙ sym q', s ∙ sym s')
    go (Ok t) o h h' = lines (sound b (well_formed b t o)) (refusal_of b work report) h h'
