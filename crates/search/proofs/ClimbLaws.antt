-- Laws of specs/Climb.antt. Assumes nothing.
use Rattle.std.specs.Prelude.{◌≡◌, cond, List, [], ◌∷◌, ◌++◌, eqb}
use Rattle.std.proofs.Math.Path.{refl, sym, ap}
use Rattle.std.proofs.Common.{ap₂, ◌∙◌, append-nil, length-append}
use Prim.Native.Nat.{ℕ, zero, suc, ◌+◌, ◌-◌, ◌*◌, ◌≤◌, ◌<◌}
use Rattle.std.proofs.Math.Decide.{dec_lt}
use native.Mathlib.Omega.{arith}
use Rattle.std.proofs.Math.ListN.{length}
use Rattle.std.proofs.Math.Seq.{append_snoc}
use Rattle.order.specs.Word.{Word, ◌▸◌}
use Rattle.order.proofs.Word.{length-▸}
use Rattle.order.specs.Graph.{Graph}
use Rattle.order.specs.Log.{Entry, climb, path}
use Rattle.recorder.specs.Block.{Block}
use Rattle.recorder.specs.Flag.{Flag}
use Rattle.recorder.specs.Recorder.{number}
use Rattle.recorder.specs.Slots.{record_of_slot}
use Rattle.recorder.specs.SlotGraph.{slot_graph}
use Rattle.search.specs.Workspace.{origin_at, slot_at, queue_of, Kept}
use Rattle.search.proofs.Workspace.{kept_le}
use Rattle.search.specs.Climb.{Climbs, labelled, path_by, label_of}

-- the labels of the slots from a start to index i, along the origins: the last n of them, and all of them
abbrev pub climb_by : (ℕ → ℕ) → ℕ → List ℕ → ℕ → ℕ → Word
climb_by label S w n i = climb (labelled label) (queue_of S w) n i

-- The climb stands at index i, and the letters passed are `done`: the path to head is the path to i, followed by these.
pub record Climbing (label : ℕ → ℕ) (S : ℕ) (w : List ℕ) (head i : ℕ) (done : Word) : Type 0 where
  -- after the letter of i at most so many are left
  pub more : ℕ
  pub enough : i ≤ more
  pub is : path_by label S w head ≡ climb_by label S w (suc more) i ++ done

-- ---- laws

-- a path has the labels of its graph, and nothing else of it
pub path_by_lem : (G : Graph) (S : ℕ) (w : List ℕ) (i : ℕ) → path G (queue_of S w) i ≡ path_by G.label S w i
unfolding path climb
path_by_lem G S w i = same (suc i) i
  where
    same : (n i : ℕ) → climb G (queue_of S w) n i ≡ climb_by G.label S w n i
    same zero i = refl
    same (suc n) i = go ((queue_of S w).from i) refl (same n)
      where
        go : (f : ℕ) → (queue_of S w).from i ≡ f → ((p : ℕ) → climb G (queue_of S w) n p ≡ climb_by G.label S w n p)
            → climb G (queue_of S w) (suc n) i ≡ climb_by G.label S w (suc n) i
        go zero e ih = rw (e, climb)
        go (suc p) e ih = rw (e, climb) (ap (λ (v : Word). v ▸ G.label (slot_at S w i)) (ih p))

-- so where its labels are the records' numbers, its paths are those of these
pub path_numbers : (G : Graph) (B : Block) (n m S : ℕ) (w : List ℕ) (i : ℕ) → B.n ≡ n → ((x : ℕ) → G.label x ≡ number B (record_of_slot n m x))
    → path G (queue_of S w) i ≡ path_by (label_of n m) S w i
path_numbers G B n m S w i e same = path_by_lem G S w i ∙ (λ j. path_by (λ x. labels x j) S w i)
  where
    labels : (x : ℕ) → G.label x ≡ label_of n m x
    labels x = same x ∙ ap (λ (k : ℕ). 2 * (record_of_slot n m x).s + cond (eqb (record_of_slot n m x).t k) 1 0) e

-- the graph of the search is such a one
pub slot_path : (F : Flag) (B : Block) (n m S : ℕ) (w : List ℕ) (i : ℕ) → B.n ≡ n → B.m ≡ m
    → path (slot_graph F B) (queue_of S w) i ≡ path_by (label_of n m) S w i
slot_path F B n m S w i en em = path_numbers (slot_graph F B) B n m S w i en (λ x. ap₂ (λ (n m : ℕ). number B (record_of_slot n m x)) en em)

-- a kept queue whose entries are in order can be climbed
pub kept_climbs : {G : Graph} (S : ℕ) (w : List ℕ) (tail head : ℕ) → Kept S w tail → ((i : ℕ) → i < tail → Entry G (queue_of S w) i) → head < tail
    → Climbs w S head
kept_climbs S w tail head k entries h = record {
  tail = tail;
  head_in = h;
  tail_to = kept_le S w tail k;
  room = k.room;
  below = k.below;
  met = k.met;
  parent = λ i l p e. (entries i l).parent p (omega arith);
}

module _ (label : ℕ → ℕ) (S : ℕ) (w : List ℕ) where
  climb_start : (n i : ℕ) → origin_at w (slot_at S w i) ≡ 1 → climb_by label S w (suc n) i ≡ label (slot_at S w i) ∷ []
  unfolding climb
  climb_start n i e = let z : (queue_of S w).from i ≡ 0 = omega arith in rw (z, climb)

  climb_step : (n i p : ℕ) → origin_at w (slot_at S w i) ≡ suc (suc p) → climb_by label S w (suc n) i ≡ climb_by label S w n p ▸ label (slot_at S w i)
  unfolding climb
  climb_step n i p e = let z : (queue_of S w).from i ≡ suc p = omega arith in rw (z, climb)

  -- no more letters than are asked for
  length-climb : (n i : ℕ) → length (climb_by label S w n i) ≤ n
  unfolding climb
  length-climb zero i = omega arith
  length-climb (suc n) i = go ((queue_of S w).from i) refl (length-climb n)
    where
      go : (f : ℕ) → (queue_of S w).from i ≡ f → ((p : ℕ) → length (climb_by label S w n p) ≤ n) → length (climb_by label S w (suc n) i) ≤ suc n
      go zero e ih = rw (e, climb) (omega arith)
      go (suc p) e ih = rw (e, climb, length-▸) (omega (arith, ih p))

  -- so a path has no more letters than there are slots
  pub path_to : (head : ℕ) → Climbs w S head → length (path_by label S w head) ≤ S
  unfolding path
  path_to head k = omega (arith, length-climb (suc head) head, k.head_in, k.tail_to)

  -- the climb begins at head
  pub climb_begins : (head : ℕ) → Climbing label S w head head []
  unfolding path
  climb_begins head = record { more = head; enough = omega arith; is = sym (append-nil _) }

-- It stands at index i, with the slot x, whose origin is o.
module _ {S : ℕ} {w : List ℕ} {head : ℕ} (k : Climbs w S head) (i : ℕ) (l : i ≤ head) {x o : ℕ} (slot : x ≡ slot_at S w i) (origin : o ≡ origin_at w x) where
  in_queue : i < k.tail
  in_queue = omega (arith, k.head_in)

  origin_is : o ≡ origin_at w (slot_at S w i)
  origin_is = origin ∙ ap (origin_at w) slot

  -- an origin that is not a start leads down
  pub climb_down : 2 ≤ o → o - 2 < i
  climb_down h = k.parent i in_queue (o - 2) (omega (arith, origin_is))

  module _ {label : ℕ → ℕ} {done : Word} (c : Climbing label S w head i done) where
    -- there the climb goes on
    pub climb_goes_on : 2 ≤ o → Climbing label S w head (o - 2) (label (slot_at S w i) ∷ done)
    unfolding ◌▸◌
    climb_goes_on h =
        let p = climb_down h in
        let e : suc (c.more - 1) ≡ c.more = omega (arith, c.enough) in
        let step = climb_step label S w c.more i (o - 2) (omega (arith, origin_is)) in
        record {
          more = c.more - 1;
          enough = omega (arith, c.enough);
          is = rw e (c.is ∙ ap (λ (v : Word). v ++ done) step ∙ append_snoc (climb_by label S w c.more (o - 2)) (label (slot_at S w i)) done);
        }

    -- at a start it ends
    pub climb_ends : o < 2 → path_by label S w head ≡ label (slot_at S w i) ∷ done
    climb_ends h = c.is ∙ ap (λ (v : Word). v ++ done) (climb_start label S w c.more i (omega (arith, origin_is, k.met i in_queue)))

    -- either way the letter of i was still to be passed
    pub climb_left : length done < length (path_by label S w head)
    climb_left = go (dec_lt o 2)
      where
        go : Dec (o < 2) → length done < length (path_by label S w head)
        go (yes h) = rw (climb_ends h) (omega arith)
        go (no h) = rw ((climb_goes_on (omega arith)).is, length-append) (omega arith)
