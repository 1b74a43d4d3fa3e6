-- Laws of specs/Find.antt. Assumes nothing.
use Rattle.std.specs.Prelude.{◌≡◌, refl, List, ◌++◌, ℕ, ◌-◌, ◌*◌, ◌≤◌, ◌<◌, length, drop, Option, Some, None}
use Rattle.std.proofs.Common.{sym, ap, ◌∙◌, arith}
use Rattle.order.specs.Graph.{Safe}
use Rattle.order.proofs.Turn.{search_stops}
use Rattle.order.specs.Word.{Word}
use Rattle.recorder.specs.Flag.{Flag, live_flag, LassoBy}
use Rattle.recorder.specs.Lasso.{Least}
use Rattle.recorder.proofs.Least.{least_by, least_of_block, least_live}
use Rattle.recorder.proofs.SlotGraph.{slots_determined}
use Rattle.table.specs.Layout.{states_of, sets_of}
use Rattle.table.specs.BlockOf.{block_of}
use Rattle.table.specs.WellFormed.{WellFormed}
use Rattle.table.proofs.Sound.{sound}
use Rattle.table.specs.declared.Table.{Table}
use Rattle.table.specs.Recording.{slots_of, graph_of}
use Rattle.table.proofs.Recording.{block_states, block_sets}
use Rattle.writing.specs.Cleared.{cleared}
use Rattle.writing.proofs.Cleared.{length-cleared, cleared_at, cleared_past, cleared_again}
use Rattle.search.specs.Climb.{Climbs, path_by, label_of}
use Rattle.search.proofs.ClimbLaws.{kept_climbs, slot_path, path_to}
use Rattle.search.specs.Report.{halves, odds}
use Rattle.search.proofs.Report.{Reports, lasso_reported}
use Rattle.search.specs.Scan.{ScanAsks, Stopped, ScanSays}
use Rattle.search.specs.Searched.{AnswerSays}
use Rattle.search.specs.Starts.{StartsAsk, StartsSay}
use Rattle.search.specs.Find.{FindAsks, FindSays}

-- the starts can be queued once the origins are cleared
pub starts_asked : {b : List ℕ} {t : Table} {S : ℕ} {work report : List ℕ} (v : List ℕ) → FindAsks b t S work report → v ≡ cleared S work → StartsAsk b t S v
starts_asked {S} {work} v a e = rw e (record {
  formed = a.formed;
  laid = a.laid;
  slots_are = a.slots_are;
  room = let l = a.work_room in omega (arith, length-cleared S work (omega arith));
  fresh = λ x h. cleared_at S work x h;
})

-- and then scanned
pub scan_asked : {F : Flag} {b : List ℕ} {t : Table} {S : ℕ} {v : List ℕ} {r : ℕ} {u : List ℕ} → StartsAsk b t S v → StartsSay F b S v r u
    → ScanAsks F b t S u r
scan_asked a s = record { formed = a.formed; laid = a.laid; slots_are = a.slots_are; kept = s.kept; between = s.between }

-- the words past the first 2S stay all the while
pub rest_stays : {F : Flag} {b : List ℕ} {S : ℕ} (work v u w : List ℕ) {r : ℕ} {seen : Option ℕ} → v ≡ cleared S work → StartsSay F b S v r u
    → ScanSays F b S u seen w → drop (2 * S) w ≡ drop (2 * S) work
rest_stays {S} work v u w e s k = k.same.rest ∙ s.same.rest ∙ ap (drop (2 * S)) e ∙ cleared_past S (2 * S) work (omega arith)

-- the same under other names for S, what was seen, and the words
pub seen_as : {F : Flag} {b : List ℕ} {S S' : ℕ} {w w' v : List ℕ} {r r' : Option ℕ} → S ≡ S' → r ≡ r' → w' ≡ v → ScanSays F b S w r w' → ScanSays F b S' w r' v
seen_as p e q k = rw (← p, ← e, ← q) k

-- the origins of a scan that stopped lead to a start
pub stopped_climbs : {F : Flag} {b : List ℕ} {S : ℕ} {w : List ℕ} {head y : ℕ} → Stopped F b S w head y → Climbs w S head
stopped_climbs {F} {b} {S} {w} {head} s = kept_climbs {G = graph_of F b} S w s.tail head s.kept s.turning.log.entries s.turning.next

-- the path to head has the numbers of the least lasso by the flag, but for the last
pub record Told (F : Flag) (b : List ℕ) (path : Word) : Type 0 where
  pub ss : List ℕ
  pub l : ℕ
  pub least : Least (LassoBy F (block_of b)) ss l
  pub reports : Reports path ss l

reports_as : {v w : Word} {ss : List ℕ} {l : ℕ} → v ≡ w → Reports v ss l → Reports w ss l
reports_as p r = rw (← p) r

pub stopped_tells : (F : Flag) (b : List ℕ) (n m S : ℕ) (w : List ℕ) (head y : ℕ) → WellFormed b → n ≡ states_of b → m ≡ sets_of b
    → Stopped F b S w head y → Told F b (path_by (label_of n m) S w head)
stopped_tells F b n m S w head y f en em s =
    let B = block_of b in
    let ok = sound b f in
    let bad = search_stops (slots_determined F B ok) y s.turning s.edge s.bad in
    let (ss, l, least, e) = ((least_by F B ok).spelled _).0 bad in
    let p = slot_path F B n m S w head (block_states b ∙ sym en) (block_sets b ∙ sym em) in
    record { ss = ss; l = l; least = least; reports = reports_as p (lasso_reported ss l _ _ least.is.loop.here e) }

-- ---- the answers, by the rules' flag

pub says_lasso : {b : List ℕ} {path : Word} {len u : ℕ} (report report' : List ℕ) → Told live_flag b path → len ≡ length path → u ≡ odds path
    → report' ≡ halves path ++ drop len report → AnswerSays (block_of b) report (Some (record { k = len - 1; l = u - 1 })) report'
says_lasso {b} {path} {len} {u} report report' t d e r =
    let q : u - 1 ≡ t.l = omega (arith, t.reports.place) in (
      t.ss,
      omega (arith, t.reports.size, t.least.is.loop.here),
      rw q (least_live (block_of b) t.ss t.l t.least),
      r ∙ ap (λ (x : List ℕ). x ++ drop len report) t.reports.states ∙ ap (λ (k : ℕ). t.ss ++ drop k report) (d ∙ t.reports.size),
    )

pub says_holds : {b : List ℕ} (report : List ℕ) → WellFormed b → Safe (graph_of live_flag b) → AnswerSays (block_of b) report None report
says_holds {b} report f s = ((least_of_block (block_of b) (sound b f)).none.0 s, refl)

-- what was cleared at the end is what came, cleared
pub clears : {S S' : ℕ} (w v : List ℕ) {u : List ℕ} → S ≡ S' → drop (2 * S) v ≡ drop (2 * S) w → u ≡ cleared (2 * S) v → u ≡ cleared (2 * S') w
clears {S} w v p r e = e ∙ cleared_again (2 * S) w v r ∙ rw p

-- ---- along the code of `find`: the origins are cleared, which gives v, and the starts are queued. The words w of the queue are those w' that the
-- workspace has after the scan.
module _ {b : List ℕ} {t : Table} {S : ℕ} {work report : List ℕ} (a : FindAsks b t S work report) {v : List ℕ} (e : v ≡ cleared S work)
    {queued : ℕ} {u : List ℕ} (s : StartsSay live_flag b S v queued u) {S' : ℕ} (same : S' ≡ S) where
  clears_all : {x : Option ℕ} {w z : List ℕ} → ScanSays live_flag b S u x w → z ≡ cleared (2 * S) w → z ≡ cleared (2 * slots_of b) work
  clears_all {w} k d = clears work w a.slots_are (rest_stays work v u w e s k) d

  -- ---- no bad slot was met
  pub find_holds : {w w' z : List ℕ} → ScanSays live_flag b S' u None w → z ≡ cleared (2 * S) w' → w' ≡ w → FindSays b work report None z report
  find_holds k d back = let k' = seen_as same refl (sym back) k in (says_holds report a.formed k'.seen, clears_all k' d)

  -- ---- head leads to a bad slot
  module _ {w : List ℕ} {head : ℕ} (k : ScanSays live_flag b S' u (Some head) w) {S'' : ℕ} (still : S'' ≡ S') where
    stopped : (y : ℕ) × Stopped live_flag b S'' w head y
    stopped = (seen_as (sym still) refl refl k).seen

    -- the path to head can be climbed
    pub path_climbs : Climbs w S'' head
    path_climbs = stopped_climbs stopped.1

    told : Told live_flag b (path_by (label_of t.states t.sets) S'' w head)
    told = stopped_tells live_flag b t.states t.sets S'' w head _ a.formed a.laid.states_are a.laid.sets_are stopped.1

    -- it has len records
    module _ {len : ℕ} (is : (label : ℕ → ℕ) → len ≡ length (path_by label S'' w head)) where
      pub len_fits : (len ≡ length (path_by (label_of t.states t.sets) S'' w head)) × (len ≤ length report)
      len_fits =
          let label = label_of t.states t.sets in
          (is label, omega (arith, is label, path_to label S'' w head path_climbs, a.report_room, same, still))

      pub len_some : 0 < len
      len_some = omega (arith, is (label_of t.states t.sets), told.reports.size, told.least.is.loop.here)

      module _ {n : ℕ} (d : n ≡ odds (path_by (label_of t.states t.sets) S'' w head)) where
        pub odds_some : 0 < n
        odds_some = omega (arith, told.reports.place)

        pub find_lasso : {report' w' z : List ℕ} → report' ≡ halves (path_by (label_of t.states t.sets) S'' w head) ++ drop len report
            → z ≡ cleared (2 * S) w' → w' ≡ w → FindSays b work report (Some (record { k = len - 1; l = n - 1 })) z report'
        find_lasso r c back = (says_lasso report _ told (is _) d r, clears_all (seen_as same refl (sym back) k) c)
