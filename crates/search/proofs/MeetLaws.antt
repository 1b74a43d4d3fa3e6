-- Laws of specs/Meet.antt. Assumes nothing.
use Rattle.std.specs.Prelude.{◌≡◌, refl, Bool, true, false, List, ℕ, suc, ◌+◌, ◌-◌, ◌*◌, ◌≤◌, ◌<◌}
use Rattle.std.proofs.Common.{sym, ap, ◌∙◌, true≢false, add-one, arith, length-set, drop-set-lt}
use Rattle.std.proofs.Math.Decide.{ℕ_discrete}
use Rattle.order.specs.Graph.{Graph}
use Rattle.order.specs.Turn.{Turning}
use Rattle.order.proofs.Turn.{turn_passes, turn_queues}
use Rattle.search.specs.Workspace.{origin_at, slot_at, queue_of, Kept, meeting}
use Rattle.search.proofs.Workspace.{room_left, meeting_agrees, meeting_node, meeting_origin, meeting_keeps}
use Rattle.search.specs.Meet.{MeetAsks, MeetSays, SameRest, SameQueue}
use Rattle.search.specs.declared.queue.Queue.{Queue}

-- Meeting a slot where it is wanted; where it is not, nothing changes.
pub record MeetIfSays (wanted : Bool) (S : ℕ) (w : List ℕ) (tail x o : ℕ) (r : ℕ) (w' : List ℕ) : Type 0 where
  pub is_wanted : wanted ≡ true → MeetSays S w tail x o r w'
  pub is_not : wanted ≡ false → (r ≡ tail) × (w' ≡ w)

-- so say the two branches of an `if`
pub where_wanted : {wanted : Bool} {S : ℕ} {w : List ℕ} {tail x o r : ℕ} {w' : List ℕ} → wanted ≡ true → MeetSays S w tail x o r w' → MeetIfSays wanted S w tail x o r w'
where_wanted e m = record { is_wanted = λ _. m; is_not = λ n. absurd (true≢false (sym e ∙ n)) }

pub where_not : {wanted : Bool} {S : ℕ} {w : List ℕ} {tail x o : ℕ} → wanted ≡ false → MeetIfSays wanted S w tail x o tail w
where_not n = record { is_wanted = λ e. absurd (true≢false (sym e ∙ n)); is_not = λ _. (refl, refl) }

-- the same under other names for S, x and the wish
pub asks_as : {S S' : ℕ} {w : List ℕ} {tail x x' o : ℕ} → S ≡ S' → x ≡ x' → MeetAsks S' w tail x' o → MeetAsks S w tail x o
asks_as p q a = rw (p, q) a

pub says_as : {S S' : ℕ} {w : List ℕ} {tail x x' o r : ℕ} {w' : List ℕ} → S ≡ S' → x ≡ x' → MeetSays S w tail x o r w' → MeetSays S' w tail x' o r w'
says_as p q m = rw (← p, ← q) m

pub if_says_as : {u u' : Bool} {S S' : ℕ} {w : List ℕ} {tail x x' o r : ℕ} {w' : List ℕ} → u ≡ u' → S ≡ S' → x ≡ x'
    → MeetIfSays u S w tail x o r w' → MeetIfSays u' S' w tail x' o r w'
if_says_as d p q m = rw (← d, ← p, ← q) m

-- a slot that was not met leaves room in the queue
pub room_to_meet : {S : ℕ} {w : List ℕ} {tail x o : ℕ} → MeetAsks S w tail x o → origin_at w x ≡ 0 → tail < S
room_to_meet a new = room_left _ _ _ _ _ a.kept a.slot_in new a.origin_from

pub rest_same : (S : ℕ) (w : List ℕ) → SameRest S w w
rest_same S w = record { size = refl; rest = refl }

pub rest_trans : {S : ℕ} {u v w : List ℕ} → SameRest S u v → SameRest S v w → SameRest S u w
rest_trans p q = record { size = q.size ∙ p.size; rest = q.rest ∙ p.rest }

pub queue_trans : {q r s : Queue} → SameQueue q r → SameQueue r s → SameQueue q s
queue_trans a b = record { slots = b.slots ∙ a.slots; words = b.words ∙ a.words }

-- either way the queue is in order and no shorter, and what stood in it stays
pub record Met (S : ℕ) (w : List ℕ) (tail r : ℕ) (w' : List ℕ) : Type 0 where
  pub kept : Kept S w' r
  pub same : SameRest S w w'
  pub longer : tail ≤ r
  pub stays : (i : ℕ) → i < tail → slot_at S w' i ≡ slot_at S w i

module _ {S : ℕ} {w : List ℕ} {tail x o r : ℕ} {w' : List ℕ} (a : MeetAsks S w tail x o) (m : MeetSays S w tail x o r w') where
  pub meets : Met S w tail r w'
  meets = go (ℕ_discrete (origin_at w x) 0)
    where
      go : Dec (origin_at w x ≡ 0) → Met S w tail r w'
      go (yes e) =
          let (p, q) = m.is_new e in
          let l = room_left S tail x o w a.kept a.slot_in e a.origin_from in
          let k = meeting_keeps S tail x o w a.kept a.slot_in e a.origin_from in
          let n : r ≡ suc tail = p ∙ add-one tail in
          rw (n, q) (record {
            kept = k;
            same = record {
              size = simp length-set;
              rest = drop-set-lt (2 * S) _ (S + tail) x (omega arith) ∙ drop-set-lt (2 * S) w x o (omega (arith, a.slot_in));
            };
            longer = omega arith;
            stays = λ i h. (meeting_agrees S tail x o w a.kept a.slot_in e a.origin_from).node i h;
          })
      go (no e) = let (p, q) = m.was_met (omega arith) in rw (p, q) (record { kept = a.kept; same = rest_same S w; longer = omega arith; stays = λ i h. refl })

-- and where it is not wanted, nothing changes
pub meets_if : {wanted : Bool} {S : ℕ} {w : List ℕ} {tail x o r : ℕ} {w' : List ℕ} → MeetAsks S w tail x o → MeetIfSays wanted S w tail x o r w' → Met S w tail r w'
meets_if {wanted = true} a m = meets a (m.is_wanted refl)
meets_if {wanted = false} {S} {w} a m =
    let (p, q) = m.is_not refl in
    rw (p, q) (record { kept = a.kept; same = rest_same S w; longer = omega arith; stays = λ i h. refl })

pub met_trans : {S : ℕ} {w : List ℕ} {tail r : ℕ} {v : List ℕ} {r' : ℕ} {u : List ℕ} → Met S w tail r v → Met S v r r' u → Met S w tail r' u
met_trans p q = record {
  kept = q.kept;
  same = rest_trans p.same q.same;
  longer = omega (arith, p.longer, q.longer);
  stays = λ i h. q.stays i (omega (arith, p.longer)) ∙ p.stays i h;
}

-- a turn goes on: y is dealt with
module _ (G : Graph) (apart : (x y z : ℕ) → G.Edge x y → G.Edge x z → G.label y ≡ G.label z → y ≡ z)
    {S : ℕ} {w : List ℕ} {head tail : ℕ} (y r : ℕ) (w' : List ℕ) (a : MeetAsks S w tail y (head + 2)) (m : MeetSays S w tail y (head + 2) r w') where
  pub meet_turns : Turning G (queue_of S w) head tail (G.label y) → G.Edge (slot_at S w head) y → ¬ G.Bad y → Turning G (queue_of S w') head r (suc (G.label y))
  meet_turns t e g = go (ℕ_discrete (origin_at w y) 0)
    where
      go : Dec (origin_at w y ≡ 0) → Turning G (queue_of S w') head r (suc (G.label y))
      go (yes z) =
          let (p, q) = m.is_new z in
          let n : r ≡ suc tail = p ∙ add-one tail in
          let node = meeting_node S tail y (head + 2) w a.kept a.slot_in z a.origin_from in
          let origin = meeting_origin S tail y (head + 2) w a.kept a.slot_in z a.origin_from in
          let o : head + 2 - 1 ≡ suc head = omega arith in
          rw (n, q) (turn_queues G apart y t e g (meeting_agrees S tail y (head + 2) w a.kept a.slot_in z a.origin_from) node
          (ap (λ (x : ℕ). origin_at (meeting S tail y (head + 2) w) x - 1) node ∙ ap (λ (o : ℕ). o - 1) origin ∙ o))
      go (no z) =
          let (p, q) = m.was_met (omega arith) in
          let (i, l, d) = a.kept.only y a.slot_in (omega arith) in
          rw (p, q) (turn_passes G apart y t e g i l d)
