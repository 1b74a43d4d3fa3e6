-- The slot graph of a sound block, by lists: its starts, and what a slot leads to. So a search of it can be checked by computing.
-- Assumes nothing.
use Rattle.std.specs.Prelude.{◌≡◌, Bool, ◌⊎◌, List, [], ◌∷◌, ℕ}
use Rattle.std.proofs.Math.Bool.{true, false}
use Rattle.std.proofs.Common.{inl, inr}
use mathlib.Core.List.Memᴰ
use Rattle.order.proofs.Tests.{Listed, picked, picked_listed}
use Rattle.order.proofs.Certificate.{Listing}
use Rattle.recorder.specs.Block.{Block, Sound}
use Rattle.recorder.specs.Flag.{Flag}
use Rattle.recorder.specs.Recorder.{start_of, step_of, bad_of}
use Rattle.recorder.specs.SlotGraph.{slot_graph, at, slot}

module _ (F : Flag) (B : Block) where
  -- the slots of the start records
  unfoldable pub start_slots : List ℕ
  unfolding picked
  start_slots = picked B.start (λ s. slot B (start_of F B s) ∷ []) B.n

  -- the two steps of slot x along an edge to s'
  abbrev pub two_steps : ℕ → ℕ → List ℕ
  two_steps x s' = slot B (step_of F B (at B x) s' true) ∷ slot B (step_of F B (at B x) s' false) ∷ []

  unfoldable pub next_slots : ℕ → List ℕ
  unfolding picked
  next_slots x = picked (B.edge (at B x).s) (two_steps x) B.n

  abbrev pub bad_slot : ℕ → Bool
  bad_slot x = bad_of B (at B x)

  unfoldable pub listing : Sound B → Listing (slot_graph F B)
  unfolding start_slots next_slots
  listing ok = record {
    starts = start_slots;
    next = next_slots;
    bad = bad_slot;
    start_listed = λ x. (
      λ (s, h, e). (picked_listed B.start (λ s. slot B (start_of F B s) ∷ []) x B.n).1 (s, ok.start_in s h, h, Memᴰ.head e),
      λ m. let (s, l, h, k) = (picked_listed B.start (λ s. slot B (start_of F B s) ∷ []) x B.n).0 m in (s, h, Memᴰ.eq_of_singleton k),
    );
    edge_listed = λ x y. (
      λ (s', w, h, e). (picked_listed (B.edge (at B x).s) (two_steps x) y B.n).1 (s', (ok.edge_in _ s' h).1, h, one x y s' w e),
      λ m. let (s', l, h, k) = (picked_listed (B.edge (at B x).s) (two_steps x) y B.n).0 m in other x y s' h (Memᴰ.cases_cons k),
    );
    bad_tested = λ x. (λ h. h, λ h. h);
  }
    where
      one : (x y s' : ℕ) (w : Bool) → y ≡ slot B (step_of F B (at B x) s' w) → Listed y (two_steps x s')
      one x y s' true e = Memᴰ.head e
      one x y s' false e = Memᴰ.tail (Memᴰ.head e)

      other : (x y s' : ℕ) → B.edge (at B x).s s' ≡ true → (y ≡ slot B (step_of F B (at B x) s' true)) ⊎ Listed y (slot B (step_of F B (at B x) s' false) ∷ [])
          → (slot_graph F B).Edge x y
      other x y s' h (inl e) = (s', true, h, e)
      other x y s' h (inr m) = (s', false, h, Memᴰ.eq_of_singleton m)
