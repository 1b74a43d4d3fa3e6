-- Laws of specs/Certificate.antt. Assumes nothing.
use Rattle.std.specs.Prelude.{◌≡◌, Bool, true, false, not, ◌&&◌, ◌||◌, ◌↔◌, List, [], ◌∷◌, ℕ, zero, suc, ◌<◌, eqb, ltb, get_or}
use Rattle.std.proofs.Math.Path.{refl}
use Rattle.std.proofs.Common.{sym, ◌∙◌, true≢false, arith}
use Rattle.std.proofs.lemmas.Bool.{false≢true}
use Rattle.std.proofs.Math.Dec.{leb}
use Rattle.std.proofs.Math.ListN.{length}
use borrow.Author.Tests.{eqb-true, leb-true, ltb-true, lt-ltb, not-true}
use Rattle.order.specs.Word.{Word, ◌▸◌}
use Rattle.order.specs.Graph.{Graph, Safe, LeastBad}
use Rattle.order.proofs.Graph.{determined, Determined}
use Rattle.order.specs.Log.{Queue, Queued, Before, by_origin, by_label, Entry, Log, climb, path}
use Rattle.order.proofs.Search.{none, found}
use Rattle.order.proofs.Tests.{Listed, is_in, every, below, same, both, is_in_listed, every_listed, below_true, same_equal}
use Rattle.order.specs.Certificate.{Item}

-- lists of a graph's starts and edges, and a test of its bad nodes
pub record Listing (G : Graph) : Type 0 where
  pub starts : List ℕ
  pub next : ℕ → List ℕ
  pub bad : ℕ → Bool
  pub start_listed : (x : ℕ) → G.Start x ↔ Listed x starts
  pub edge_listed : (x y : ℕ) → G.Edge x y ↔ Listed y (next x)
  pub bad_tested : (x : ℕ) → G.Bad x ↔ (bad x ≡ true)

-- the queue that a list of entries is
abbrev pub queue_of : List Item → Queue
queue_of es = record { node = λ i. (get_or es i (0, 0)).0; from = λ i. (get_or es i (0, 0)).1 }

-- node x is an entry of the list, with an origin of at most f
unfoldable pub queued_test : List Item → ℕ → ℕ → Bool
queued_test [] x f = false
queued_test (e ∷ es) x f = (eqb e.0 x && leb e.1 f) || queued_test es x f

-- the key of f and a is less than the key of g and b
unfoldable pub before_test : ℕ → ℕ → ℕ → ℕ → Bool
before_test f a g b = ltb f g || (eqb f g && ltb a b)

-- index i, whose origin is f, is a start, or an edge leads to it from an index before it
unfoldable pub origin_test : List ℕ → (ℕ → List ℕ) → Queue → ℕ → ℕ → Bool
origin_test starts next q zero i = is_in (q.node i) starts
origin_test starts next q (suc p) i = ltb p i && is_in (q.node i) (next (q.node p))

-- the key of index i is greater than the one before
unfoldable pub key_test : (ℕ → ℕ) → Queue → ℕ → Bool
key_test label q zero = true
key_test label q (suc k) = before_test (q.from k) (label (q.node k)) (q.from (suc k)) (label (q.node (suc k)))

-- x is not bad if its label is below that of b
unfoldable pub low_test : (ℕ → ℕ) → (ℕ → Bool) → ℕ → ℕ → Bool
low_test label bad b x = not (ltb (label x) (label b) && bad x)

-- each node of the list is queued, with an origin of at most f, and is not bad
unfoldable pub good_test : (ℕ → Bool) → List Item → ℕ → List ℕ → Bool
good_test bad es f xs = every (λ x. queued_test es x f && not (bad x)) xs

-- what index j leads to is queued, with an origin of at most j + 1, and is not bad
unfoldable pub done_test : (ℕ → List ℕ) → (ℕ → Bool) → List Item → ℕ → Bool
done_test next bad es j = good_test bad es (suc j) (next ((queue_of es).node j))

-- index i is in order
unfoldable pub entry_test : List ℕ → (ℕ → List ℕ) → (ℕ → ℕ) → Queue → ℕ → Bool
entry_test starts next label q i = origin_test starts next q (q.from i) i && key_test label q i

module _ (G : Graph) (starts : List ℕ) (next : ℕ → List ℕ) (bad : ℕ → Bool) where
  -- the list is the queue of a search that has done the indices below head
  unfoldable pub log_test : List Item → ℕ → Bool
  unfolding is_in every below queued_test before_test origin_test key_test entry_test good_test done_test
  log_test es head =
      let n = length es in
      leb head n && (below (entry_test starts next G.label (queue_of es)) n && (good_test bad es 0 starts && below (done_test next bad es) head))

  -- it has done them all
  unfoldable pub safe_test : List Item → Bool
  unfolding log_test
  safe_test es = log_test es (length es)

  -- index head leads to the bad node b, and to no bad node with a lower label, and w is the word of this run
  unfoldable pub found_test : List Item → ℕ → ℕ → Word → Bool
  unfolding log_test low_test same path climb ◌▸◌
  found_test es head b w =
      let q = queue_of es in
      let ys = next (q.node head) in
      let word = path G q head ▸ G.label b in
      log_test es head && (ltb head (length es) && (is_in b ys && (bad b && (every (low_test G.label bad b) ys && same word w))))

-- What the tests tell

queued : (es : List Item) (x f : ℕ) → queued_test es x f ≡ true → Queued (queue_of es) (length es) x f
unfolding queued_test
queued [] x f e = absurd (false≢true e)
queued (a ∷ es) x f e = go (eqb a.0 x && leb a.1 f) refl e (queued es x f)
  where
    go : (t : Bool) → (eqb a.0 x && leb a.1 f) ≡ t → (t || queued_test es x f) ≡ true
        → (queued_test es x f ≡ true → Queued (queue_of es) (length es) x f) → Queued (queue_of (a ∷ es)) (suc (length es)) x f
    go true d e ih =
        let s = both _ _ d in
        record { place = 0; place_lt = omega arith; is_node = eqb-true _ _ s.0; origin_le = leb-true _ _ s.1 }
    go false d e ih =
        let r = ih e in
        record { place = suc r.place; place_lt = omega arith; is_node = r.is_node; origin_le = r.origin_le }

before : (f a g b : ℕ) → before_test f a g b ≡ true → Before f a g b
unfolding before_test
before f a g b e = go (ltb f g) refl e
  where
    go : (t : Bool) → ltb f g ≡ t → (t || (eqb f g && ltb a b)) ≡ true → Before f a g b
    go true d e = by_origin (ltb-true f g d)
    go false d e = let s = both _ _ e in by_label (eqb-true f g s.0) (ltb-true a b s.1)

module _ {G : Graph} (L : Listing G) (es : List Item) where
  abbrev q : Queue
  q = queue_of es

  not_bad : (x : ℕ) → not (L.bad x) ≡ true → ¬ G.Bad x
  not_bad x e b = true≢false (sym ((L.bad_tested x).0 b) ∙ not-true _ e)

  edge : (x y : ℕ) → is_in y (L.next x) ≡ true → G.Edge x y
  edge x y e = (L.edge_listed x y).1 (is_in_listed y (L.next x) e)

  entry : (i : ℕ) → entry_test L.starts L.next G.label q i ≡ true → Entry G q i
  unfolding entry_test origin_test key_test
  entry i e = record {
    start = λ d. (L.start_listed (q.node i)).1 (is_in_listed _ L.starts (rw d at s.0));
    parent = λ p d. ltb-true p i (led p d).0;
    edge = λ p d. edge (q.node p) (q.node i) (led p d).1;
    sorted = λ k d. rw (← d) (before _ _ _ _ (rw (← d) at s.1));
  }
    where
      s : (origin_test L.starts L.next q (q.from i) i ≡ true) × (key_test G.label q i ≡ true)
      s = both _ _ e

      led : (p : ℕ) → q.from i ≡ suc p → (ltb p i ≡ true) × (is_in (q.node i) (L.next (q.node p)) ≡ true)
      led p d = both _ _ (rw d at s.0)

  -- what passes good_test is queued and is not bad: the starts, and what the edges of a done index lead to
  good : (f : ℕ) (xs : List ℕ) → good_test L.bad es f xs ≡ true → (x : ℕ) → Listed x xs → Queued q (length es) x f × ¬ G.Bad x
  unfolding good_test
  good f xs e x m =
      let s = both _ _ (every_listed _ xs e x m) in
      (queued es x f s.0, not_bad x s.1)

  good_start : good_test L.bad es 0 L.starts ≡ true → (x : ℕ) → G.Start x → Queued q (length es) x 0 × ¬ G.Bad x
  good_start e x h = good 0 L.starts e x ((L.start_listed x).0 h)

  good_edge : (j : ℕ) → done_test L.next L.bad es j ≡ true → (x : ℕ) → G.Edge (q.node j) x → Queued q (length es) x (suc j) × ¬ G.Bad x
  unfolding done_test
  good_edge j e x h = good (suc j) (L.next (q.node j)) e x ((L.edge_listed (q.node j) x).0 h)

  -- what x leads to with a label below that of b is not bad
  low : (b x y : ℕ) → every (low_test G.label L.bad b) (L.next x) ≡ true → G.Edge x y → G.label y < G.label b → ¬ G.Bad y
  unfolding low_test
  low b x y e h l =
      let t = every_listed (low_test G.label L.bad b) (L.next x) e y ((L.edge_listed x y).0 h) in
      not_bad y (rw (lt-ltb (G.label y) (G.label b) l) at t)

  -- The theorems

  pub log_certified : (head : ℕ) → log_test G L.starts L.next L.bad es head ≡ true → Log G (queue_of es) head (length es)
  unfolding log_test
  log_certified head e =
      let s = both (leb head (length es)) _ e in
      let t = both (below (entry_test L.starts L.next G.label q) (length es)) _ s.1 in
      let u = both (good_test L.bad es 0 L.starts) _ t.1 in
      record {
        head_le = leb-true head (length es) s.0;
        entries = λ i l. entry i (below_true _ (length es) t.0 i l);
        start_queued = λ x h. (good_start u.0 x h).0;
        start_good = λ x h. (good_start u.0 x h).1;
        edge_queued = λ j x l h. (good_edge j (below_true _ head u.1 j l) x h).0;
        edge_good = λ j x l h. (good_edge j (below_true _ head u.1 j l) x h).1;
      }

  pub safe_certified : safe_test G L.starts L.next L.bad es ≡ true → Safe G
  unfolding safe_test
  safe_certified e = none (log_certified (length es) e) refl

  pub found_certified : Determined G → (head b : ℕ) (w : Word) → found_test G L.starts L.next L.bad es head b w ≡ true → LeastBad G w
  unfolding found_test
  found_certified D head b w e =
      let x = q.node head in
      let s = both (log_test G L.starts L.next L.bad es head) _ e in
      let t = both (ltb head (length es)) _ s.1 in
      let u = both (is_in b (L.next x)) _ t.1 in
      let v = both (L.bad b) _ u.1 in
      let z = both (every (low_test G.label L.bad b) (L.next x)) _ v.1 in
      let m : path G q head ▸ G.label b ≡ w = same_equal _ w z.1 in
      let F = found (log_certified head s.0) D (ltb-true head (length es) t.0) in
      rw m at (F b (edge x b u.0) ((L.bad_tested b).1 v.0) (λ y. low b x y z.0))

-- An example: 0 → 1 → 1, 2 and 2 → 0, from 0, where the node k is bad

abbrev next : ℕ → List ℕ
next zero = 1 ∷ []
next (suc zero) = 1 ∷ 2 ∷ []
next (suc (suc n)) = 0 ∷ []

abbrev round : ℕ → Graph
round k = record { Start = λ x. Listed x (0 ∷ []); Edge = λ x y. Listed y (next x); Bad = λ x. eqb x k ≡ true; label = λ x. x }

abbrev listing : (k : ℕ) → Listing (round k)
listing k = record {
  starts = 0 ∷ [];
  next = next;
  bad = λ x. eqb x k;
  start_listed = λ x. (λ h. h, λ h. h);
  edge_listed = λ x y. (λ h. h, λ h. h);
  bad_tested = λ x. (λ h. h, λ h. h);
}

pub example_safe : Safe (round 3)
unfolding safe_test
example_safe = safe_certified (listing 3) ((0, 0) ∷ (1, 1) ∷ (2, 2) ∷ []) refl

pub example_found : LeastBad (round 2) (0 ∷ 1 ∷ 2 ∷ [])
unfolding found_test
example_found =
    let told_apart = determined (round 2) (λ s t g h e. e) (λ x y z g h e. e) in
    found_certified (listing 2) ((0, 0) ∷ (1, 1) ∷ []) told_apart 1 2 (0 ∷ 1 ∷ 2 ∷ []) refl
