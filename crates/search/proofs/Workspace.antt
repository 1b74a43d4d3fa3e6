-- Laws of specs/Workspace.antt. Assumes nothing.
use Rattle.std.specs.Prelude.{◌≡◌, refl, Bool, true, false, cond, List, ℕ, zero, suc, ◌+◌, ◌-◌, ◌*◌, ◌≤◌, ◌<◌, eqb, ltb, length, get_or, set}
use Rattle.std.proofs.Common.{sym, ap, ◌∙◌, arith, length-set, get_or-set_same, get_or-set_other, eq-eqb, ne_eqb, lt-ltb, le-ltb}
use Rattle.std.proofs.Math.Decide.{dec_lt, ℕ_discrete}
use Rattle.order.proofs.Loop.{Agree}
use Rattle.search.specs.Workspace.{origin_at, slot_at, queue_of, met_below, Kept, meeting}

-- ---- the law

-- at most all were met, and fewer where one was not
met_le : (k : ℕ) (w : List ℕ) → met_below k w ≤ k
unfolding met_below
met_le zero w = omega arith
met_le (suc k) w = go (eqb (origin_at w k) 0) (met_le k w)
  where
    go : (b : Bool) → met_below k w ≤ k → met_below k w + cond b 0 1 ≤ suc k
    go true h = omega arith
    go false h = omega arith

met_lt : (k : ℕ) (w : List ℕ) (x : ℕ) → x < k → origin_at w x ≡ 0 → met_below k w < k
unfolding met_below
met_lt zero w x h e = absurd (omega arith)
met_lt (suc k) w x h e = go (dec_lt x k) (λ l. met_lt k w x l e)
  where
    more : (b : Bool) → met_below k w < k → met_below k w + cond b 0 1 < suc k
    more true l = omega arith
    more false l = omega arith

    go : Dec (x < k) → (x < k → met_below k w < k) → met_below k w + cond (eqb (origin_at w k) 0) 0 1 < suc k
    go (yes l) ih = more (eqb (origin_at w k) 0) (ih l)
    go (no l) ih =
        let d : x ≡ k = omega arith in
        let z : origin_at w k ≡ 0 = ap (origin_at w) (sym d) ∙ e in
        rw (eq-eqb (origin_at w k) 0 z) (omega (arith, met_le k w))

-- the queue is no longer than there are slots
pub kept_le : (S : ℕ) (w : List ℕ) (tail : ℕ) → Kept S w tail → tail ≤ S
kept_le S w tail k = omega (arith, met_le S w, k.count)

-- none was met: the queue is empty
met_none : (k : ℕ) (w : List ℕ) → ((x : ℕ) → x < k → origin_at w x ≡ 0) → met_below k w ≡ 0
unfolding met_below
met_none zero w h = refl
met_none (suc k) w h = rw (met_none k w (λ x l. h x (omega arith)), eq-eqb (origin_at w k) 0 (h k (omega arith)))

pub kept_none : (S : ℕ) (w : List ℕ) → 2 * S ≤ length w → ((x : ℕ) → x < S → origin_at w x ≡ 0) → Kept S w 0
kept_none S w l h = record {
  room = l;
  below = λ i p. absurd (omega arith);
  met = λ i p. absurd (omega arith);
  only = λ x p q. absurd (omega (arith, h x p));
  count = met_none S w h;
}

-- one more is met
met_more : (k x : ℕ) (w w' : List ℕ) → origin_at w x ≡ 0 → 0 < origin_at w' x → ((j : ℕ) → j < k → ¬ (j ≡ x) → origin_at w' j ≡ origin_at w j)
    → met_below k w' ≡ met_below k w + cond (ltb x k) 1 0
unfolding met_below
met_more zero x w w' e h same = rw (le-ltb x 0 (omega arith))
met_more (suc k) x w w' e h same = go (dec_lt x k) (met_more k x w w' e h (λ j l. same j (omega arith)))
  where
    go : Dec (x < k) → met_below k w' ≡ met_below k w + cond (ltb x k) 1 0 → met_below (suc k) w' ≡ met_below (suc k) w + cond (ltb x (suc k)) 1 0
    go (yes l) ih = rw (same k (omega arith) (λ d. omega arith), lt-ltb x (suc k) (omega arith), ih, lt-ltb x k l) (omega arith)
    go (no l) ih = last (dec_lt k x) ih
      where
        last : Dec (k < x) → met_below k w' ≡ met_below k w + cond (ltb x k) 1 0 → met_below (suc k) w' ≡ met_below (suc k) w + cond (ltb x (suc k)) 1 0
        last (yes m) ih = rw (same k (omega arith) (λ d. omega arith), le-ltb x (suc k) m, ih, le-ltb x k (omega arith)) (omega arith)
        last (no m) ih =
            let d : k ≡ x = omega arith in
            let z : origin_at w k ≡ 0 = ap (origin_at w) d ∙ e in
            let p : 0 < origin_at w' k = rw d h in
            rw (eq-eqb (origin_at w k) 0 z, ne_eqb (origin_at w' k) 0 (λ q. omega arith), lt-ltb x (suc k) (omega arith), ih, le-ltb x k (omega arith)) (omega arith)

module _ (S tail x o : ℕ) (w : List ℕ) (k : Kept S w tail) (x_in : x < S) (new : origin_at w x ≡ 0) (some : 0 < o) where
  -- a slot that was not met leaves room in the queue
  pub room_left : tail < S
  room_left = omega (arith, met_lt S w x x_in new, k.count)

  -- what stands elsewhere stays
  elsewhere : (j : ℕ) → ¬ (j ≡ x) → ¬ (j ≡ S + tail) → get_or (meeting S tail x o w) j 0 ≡ get_or w j 0
  elsewhere j p q = get_or-set_other (set w x o) (S + tail) j x 0 q ∙ get_or-set_other w x j o 0 p

  -- a slot of the queue is not x, which was not met
  other : (i : ℕ) → i < tail → ¬ (slot_at S w i ≡ x)
  other i l e = omega (arith, k.met i l, ap (origin_at w) e)

  pub meeting_agrees : Agree (queue_of S w) (queue_of S (meeting S tail x o w)) tail
  meeting_agrees = record { node = same_node; from = λ i l. ap (λ (o : ℕ). o - 1) (ap (origin_at (meeting S tail x o w)) (same_node i l) ∙ elsewhere _ (other i l) (λ e. omega (arith, k.below i l))) }
    where
      same_node : (i : ℕ) → i < tail → slot_at S (meeting S tail x o w) i ≡ slot_at S w i
      same_node i l = elsewhere (S + i) (λ e. omega arith) (λ e. omega arith)

  pub meeting_node : slot_at S (meeting S tail x o w) tail ≡ x
  meeting_node = get_or-set_same (set w x o) (S + tail) x 0 (simp length-set (omega (arith, k.room, room_left)))

  pub meeting_origin : origin_at (meeting S tail x o w) x ≡ o
  meeting_origin = get_or-set_other (set w x o) (S + tail) x x 0 (λ e. omega arith) ∙ get_or-set_same w x o 0 (omega (arith, k.room))

  pub meeting_keeps : Kept S (meeting S tail x o w) (suc tail)
  meeting_keeps = record {
    room = simp length-set k.room;
    below = λ i l. below i (dec_lt i tail) l;
    met = λ i l. met i (dec_lt i tail) l;
    only = only;
    count = met_more S x w _ new (rw meeting_origin some) (λ j l p. elsewhere j p (λ e. omega arith)) ∙ rw (lt-ltb x S x_in, k.count) (omega arith);
  }
    where
      below : (i : ℕ) → Dec (i < tail) → i < suc tail → slot_at S (meeting S tail x o w) i < S
      below i (yes p) l = rw (meeting_agrees.node i p) (k.below i p)
      below i (no p) l = let d : i ≡ tail = omega arith in rw (d, meeting_node) x_in

      met : (i : ℕ) → Dec (i < tail) → i < suc tail → 0 < origin_at (meeting S tail x o w) (slot_at S (meeting S tail x o w) i)
      met i (yes p) l = rw (meeting_agrees.node i p, elsewhere _ (other i p) (λ e. omega (arith, k.below i p))) (k.met i p)
      met i (no p) l = let d : i ≡ tail = omega arith in rw (d, meeting_node, meeting_origin) some

      only : (y : ℕ) → y < S → 0 < origin_at (meeting S tail x o w) y → (i : ℕ) × (i < suc tail) × (slot_at S (meeting S tail x o w) i ≡ y)
      only y l h = go (ℕ_discrete y x)
        where
          old : ¬ (y ≡ x) → ((i : ℕ) × (i < tail) × (slot_at S w i ≡ y)) → (i : ℕ) × (i < suc tail) × (slot_at S (meeting S tail x o w) i ≡ y)
          old p (i, r, e) = (i, omega arith, meeting_agrees.node i r ∙ e)

          go : Dec (y ≡ x) → (i : ℕ) × (i < suc tail) × (slot_at S (meeting S tail x o w) i ≡ y)
          go (yes e) = (tail, omega arith, meeting_node ∙ sym e)
          go (no p) = old p (k.only y l (rw (elsewhere y p (λ e. omega arith)) at h))
