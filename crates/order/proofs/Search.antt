-- Breadth-first search finds the least bad run.
-- Assumes nothing.
use Rattle.std.specs.Prelude.{◌≡◌, [], ◌∷◌, length}
use Rattle.std.proofs.Math.Path.{refl}
use Rattle.std.proofs.Common.{◌∙◌}
use Prim.Native.Nat.{ℕ, zero, suc, ◌≤◌, ◌<◌}
use Rattle.std.proofs.Math.Decide.{dec_lt}
use native.Mathlib.Omega.{arith}
use Rattle.order.specs.Word.{Word, ◌▸◌, here, ◌⊏◌, shorter, sooner, ◌⊑◌, less, same}
use Rattle.order.proofs.Word.{length-▸, ⊑_trans, ⊏_snoc, ⊏_last, ⊑_snoc, ⊑_last, ⊑_longer}
use Rattle.order.specs.Graph.{Graph, Run, begin, step, word, Spells, Safe, LeastBad}
use Rattle.order.proofs.Graph.{Determined}
use Rattle.order.specs.Log.{Queue, Before, by_origin, by_label, KeyBefore, Entry, Log, climb, path}

-- The word of an index

climb_start : (G : Graph) (q : Queue) (n i : ℕ) → q.from i ≡ 0 → climb G q (suc n) i ≡ G.label (q.node i) ∷ []
unfolding climb
climb_start G q n i e = rw (e, climb)

climb_step : (G : Graph) (q : Queue) (n i p : ℕ) → q.from i ≡ suc p → climb G q (suc n) i ≡ climb G q n p ▸ G.label (q.node i)
unfolding climb
climb_step G q n i p e = rw (e, climb)

pub path_start : (G : Graph) (q : Queue) (i : ℕ) → q.from i ≡ 0 → path G q i ≡ G.label (q.node i) ∷ []
unfolding path
path_start G q i e = climb_start G q i i e

path_pos : (G : Graph) (q : Queue) (i : ℕ) → 0 < length (path G q i)
unfolding path
path_pos G q i = go (q.from i) refl
  where
    go : (f : ℕ) → q.from i ≡ f → 0 < length (climb G q (suc i) i)
    go zero e = rw (climb_start G q i i e) (omega arith)
    go (suc p) e = rw (climb_step G q i i p e, length-▸) (omega arith)

before_trans : {f a g b h c : ℕ} → Before f a g b → Before g b h c → Before f a h c
before_trans (by_origin p) (by_origin r) = by_origin (omega arith)
before_trans (by_origin p) (by_label r s) = by_origin (omega arith)
before_trans (by_label p t) (by_origin r) = by_origin (omega arith)
before_trans (by_label p t) (by_label r s) = by_label (omega arith) (omega arith)

module _ {G : Graph} {q : Queue} {tail : ℕ} (E : (i : ℕ) → i < tail → Entry G q i) where
  -- more letters than i + 1 are never asked for
  climb_enough : (n m i : ℕ) → i < n → i < m → i < tail → climb G q n i ≡ climb G q m i
  climb_enough zero m i l k t = absurd (omega arith)
  climb_enough (suc n) zero i l k t = absurd (omega arith)
  climb_enough (suc n) (suc m) i l k t = go (q.from i) refl (climb_enough n m)
    where
      go : (f : ℕ) → q.from i ≡ f → ((p : ℕ) → p < n → p < m → p < tail → climb G q n p ≡ climb G q m p) → climb G q (suc n) i ≡ climb G q (suc m) i
      go zero e ih = rw (climb_start G q n i e, climb_start G q m i e)
      go (suc p) e ih =
          let h : p < i = (E i t).parent p e in
          rw (climb_step G q n i p e, climb_step G q m i p e, ih p (omega arith) (omega arith) (omega arith))

  pub path_step : (i p : ℕ) → i < tail → q.from i ≡ suc p → path G q i ≡ path G q p ▸ G.label (q.node i)
  unfolding path
  path_step i p t e =
      let h : p < i = (E i t).parent p e in
      rw (climb_step G q i i p e, climb_enough i (suc p) p h (omega arith) (omega arith))

  -- each index has a run, whose word is its path
  reaches_below : (n i : ℕ) → i < n → i < tail → Spells G (path G q i) (q.node i)
  unfolding word
  reaches_below zero i l t = absurd (omega arith)
  reaches_below (suc n) i l t = go (q.from i) refl (reaches_below n)
    where
      go : (f : ℕ) → q.from i ≡ f → ((p : ℕ) → p < n → p < tail → Spells G (path G q p) (q.node p)) → Spells G (path G q i) (q.node i)
      go zero e ih = record { run = begin ((E i t).start e); spelled = rw (path_start G q i e) }
      go (suc p) e ih =
          let h : p < i = (E i t).parent p e in
          let r = ih p (omega arith) (omega arith) in
          record { run = step r.run ((E i t).edge p e); spelled = rw (path_step i p t e, r.spelled) }

  pub reaches : (i : ℕ) → i < tail → Spells G (path G q i) (q.node i)
  reaches i t = reaches_below (suc i) i (omega arith) t

  -- the keys increase
  keys : (i k : ℕ) → i < k → k < tail → KeyBefore G q i k
  keys i zero l t = absurd (omega arith)
  keys i (suc k) l t = go (dec_lt i k) (λ h. keys i k h (omega arith))
    where
      go : Dec (i < k) → (i < k → KeyBefore G q i k) → KeyBefore G q i (suc k)
      go (yes h) ih = before_trans (ih h) ((E (suc k) t).sorted k refl)
      go (no h) ih = let e : i ≡ k = omega arith in rw e ((E (suc k) t).sorted k refl)

  -- and so do the paths
  increasing_below : (n i k : ℕ) → k < n → i < k → k < tail → path G q i ⊏ path G q k
  increasing_below zero i k l h t = absurd (omega arith)
  increasing_below (suc n) i k l h t = go (q.from i) (q.from k) refl refl (keys i k h t) (increasing_below n)
    where
      go : (f g : ℕ) → q.from i ≡ f → q.from k ≡ g → Before f (G.label (q.node i)) g (G.label (q.node k))
          → ((p r : ℕ) → r < n → p < r → r < tail → path G q p ⊏ path G q r) → path G q i ⊏ path G q k
      go zero zero e d (by_origin b) ih = absurd (omega arith)
      go zero zero e d (by_label b c) ih = rw (path_start G q i e, path_start G q k d) (sooner refl (here c))
      go zero (suc r) e d (by_origin b) ih = rw (path_start G q i e, path_step k r t d) (shorter (rw length-▸ (omega (arith, path_pos G q r))))
      go zero (suc r) e d (by_label b c) ih = absurd (omega arith)
      go (suc p) zero e d (by_origin b) ih = absurd (omega arith)
      go (suc p) zero e d (by_label b c) ih = absurd (omega arith)
      go (suc p) (suc r) e d (by_origin b) ih =
          let x : r < k = (E k t).parent r d in
          rw (path_step i p (omega arith) e, path_step k r t d) (⊏_snoc _ _ (ih p r (omega arith) (omega arith) (omega arith)))
      go (suc p) (suc r) e d (by_label b c) ih =
          let x : p ≡ r = omega arith in
          rw (path_step i p (omega arith) e, path_step k r t d, x) (⊏_last (path G q r) c)

  pub increasing : (i k : ℕ) → i < k → k < tail → path G q i ⊏ path G q k
  increasing i k h t = increasing_below (suc k) i k (omega arith) h t

  -- the later of two indices has the later path
  pub ascending : (i k : ℕ) → i ≤ k → k < tail → path G q i ⊑ path G q k
  ascending i k h t = go (dec_lt i k)
    where
      go : Dec (i < k) → path G q i ⊑ path G q k
      go (yes l) = less (increasing i k l t)
      go (no l) = let e : i ≡ k = omega arith in same (cc)

  -- what index j leads to, and has an origin no later than j, has a path no later than by way of j
  by_way : (i j : ℕ) → i < tail → j < tail → q.from i ≤ suc j → path G q i ⊑ path G q j ▸ G.label (q.node i)
  by_way i j t u h = go (q.from i) refl
    where
      go : (f : ℕ) → q.from i ≡ f → path G q i ⊑ path G q j ▸ G.label (q.node i)
      go zero e = rw (path_start G q i e) (less (shorter (rw length-▸ (omega (arith, path_pos G q j)))))
      go (suc p) e = rw (path_step i p t e) (⊑_snoc _ (ascending p j (omega arith) u))

-- Of a run that ends in x, with the word w: a done index has x by a path no later than w, or else the next index has a path no later than w.
pub data Covered (G : Graph) (q : Queue) (head tail x : ℕ) (w : Word) : Type 0 where
  done : (i : ℕ) → i < head → q.node i ≡ x → path G q i ⊑ w → Covered G q head tail x w
  next : head < tail → path G q head ⊑ w → Covered G q head tail x w

module _ {G : Graph} {q : Queue} {head tail : ℕ} (L : Log G q head tail) where
  -- an index with x and a path no later than w is done, or it is not before the next index
  covers : (i x : ℕ) (w : Word) → i < tail → q.node i ≡ x → path G q i ⊑ w → Covered G q head tail x w
  covers i x w t e s = go (dec_lt i head)
    where
      go : Dec (i < head) → Covered G q head tail x w
      go (yes l) = done i l e s
      go (no l) = next (omega arith) (⊑_trans (ascending L.entries head i (omega arith) t) s)

  covers_start : (s : ℕ) → G.Start s → Covered G q head tail s (G.label s ∷ [])
  covers_start s h =
      let a = L.start_queued s h in
      let z : q.from a.place ≡ 0 = omega arith in
      covers a.place s (G.label s ∷ []) a.place_lt a.is_node (same (rw (path_start G q a.place z, a.is_node)))

  covers_step : (x y : ℕ) (w : Word) → G.Edge x y → Covered G q head tail x w → Covered G q head tail y (w ▸ G.label y)
  covers_step x y w e (next l s) = next l (⊑_longer (G.label y) s)
  covers_step x y w e (done j l d s) =
      let e' : G.Edge (q.node j) y = rw d e in
      let a = L.edge_queued j y l e' in
      let b = by_way L.entries a.place j a.place_lt (omega arith) a.origin_le in
      covers a.place y (w ▸ G.label y) a.place_lt a.is_node (⊑_trans (rw a.is_node at b) (⊑_snoc (G.label y) s))

  -- every run is covered
  pub covered : {x : ℕ} (r : Run G x) → Covered G q head tail x (word r)
  unfolding word
  covered (begin {s} h) = covers_start s h
  covered (step {x} {y} r e) = covers_step x y (word r) e (covered r)

  -- a run that ends in a bad node has a last edge, and the run before that edge is not done
  bad_next : {x y : ℕ} (w : Word) → G.Edge x y → G.Bad y → Covered G q head tail x w → (head < tail) × (path G q head ⊑ w)
  bad_next w e b (next l s) = (l, s)
  bad_next {y} w e b (done j l d s) = absurd (L.edge_good j y l (rw d e) b)

  -- where every index is done, no run ends in a bad node
  pub none : head ≡ tail → Safe G
  unfolding Safe
  none h x (begin s) b = L.start_good x s b
  none h x (step r e) b = let n = bad_next (word r) e b (covered r) in omega arith

  -- where the next index leads to a bad node, and to none with a lower label, its path with that node's label is the least bad word
  pub found : Determined G → head < tail → (b : ℕ) → G.Edge (q.node head) b → G.Bad b
      → ((x : ℕ) → G.Edge (q.node head) x → G.label x < G.label b → ¬ G.Bad x)
      → LeastBad G (path G q head ▸ G.label b)
  unfolding word Determined
  found D t b e bad low = record {
    last = b;
    bad = bad;
    spells = record { run = step n.run e; spelled = rw n.spelled };
    least = least;
  }
    where
      n : Spells G (path G q head) (q.node head)
      n = reaches L.entries head t

      -- the run before the last edge has a later word, or the very same, and then it ends in the same node
      after : {x y : ℕ} (r : Run G x) → G.Edge x y → G.Bad y → path G q head ⊑ word r → path G q head ▸ G.label b ⊑ word r ▸ G.label y
      after {y} r d c (less s) = less (⊏_snoc (G.label b) (G.label y) s)
      after {x} {y} r d c (same s) =
          let z : q.node head ≡ x = D (q.node head) x n.run r (n.spelled ∙ s) in
          let h : ¬ (G.label y < G.label b) = λ l. low y (rw z d) l c in
          rw (← s) (⊑_last (path G q head) (omega arith))

      least : (x : ℕ) (r : Run G x) → G.Bad x → path G q head ▸ G.label b ⊑ word r
      least x (begin s) c = absurd (L.start_good x s c)
      least x (step r d) c = after r d c (bad_next (word r) d c (covered r)).1
