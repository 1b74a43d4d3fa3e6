-- What one record leads to, as the search and the translator need it: a wish counts only while nothing is saved, each successor has a slot
-- below S, and successors come in the order of their numbers exactly if in the order of their slots. Assumes nothing.
use Rattle.std.specs.Prelude.{◌≡◌, refl, Bool, true, false, cond, ◌↔◌, ◌⊎◌, ℕ, ◌+◌, ◌*◌, ◌^◌, ◌≤◌, ◌<◌}
use Rattle.std.proofs.Common.{ap, inl, inr, arith, eqb-true, ne_eqb}
use Rattle.std.proofs.Math.Decide.{dec_lt}
use Rattle.std.proofs.Math.Arith.{digits_lt}
use Rattle.std.proofs.lemmas.Bool.{eqb-false}
use Rattle.recorder.specs.Block.{Block, Sound}
use Rattle.recorder.specs.Flag.{Flag}
use Rattle.recorder.specs.Recorder.{step_of, moved, unsaved, number}
use Rattle.recorder.specs.Slots.{slot_of, slot_count, InRange}
use Rattle.recorder.proofs.Slots.{bit_lt, slot_below}
use Rattle.recorder.specs.SlotGraph.{slot}
use Rattle.recorder.proofs.SlotGraph.{step_in_range, same_number}
use Rattle.recorder.specs.declared.Record.{Record}

-- where a state is saved, a wish does nothing
pub saved_forgets_wish : (F : Flag) (B : Block) (r : Record) (s' : ℕ) → ¬ (r.t ≡ B.n) → step_of F B r s' true ≡ step_of F B r s' false
saved_forgets_wish F B r s' h = ap (λ (b : Bool). moved F B r s' (cond b r.s r.t)) (ne_eqb r.t B.n h)

-- ---- slots in order

-- two numbers of a high part and a digit below b, by their high parts
digits_order : (b h h' l l' : ℕ) → h < h' → l < b → h * b + l < h' * b + l'
digits_order b h h' l l' lt low = let d = digits_lt lt low in omega arith

module _ (n m : ℕ) (y z : Record) (oy : InRange n m y) where
  -- by what comes first in the slot number: the state, then what is saved
  slot_order : (y.s < z.s) ⊎ ((y.s ≡ z.s) × (y.t < z.t)) → slot_of n m y < slot_of n m z
  unfolding slot_of
  slot_order first = digits_order _ _ _ _ _ (digits_order 2 _ _ _ _ (saved first) (bit_lt y.live)) oy.v_in
    where
      saved : (y.s < z.s) ⊎ ((y.s ≡ z.s) × (y.t < z.t)) → y.s * (n + 1) + y.t < z.s * (n + 1) + z.t
      saved (inl h) = digits_order (n + 1) _ _ _ _ h (omega arith)
      saved (inr (e, h)) = rw e (omega arith)

-- the smaller number has the smaller slot: a saved state is below n, which stands for nothing
module _ (B : Block) (y z : Record) (oy : InRange B.n B.m y) where
  number_first : number B y < number B z → (y.s < z.s) ⊎ ((y.s ≡ z.s) × (y.t < z.t))
  number_first = go (unsaved B y.t) (unsaved B z.t) refl refl (dec_lt y.s z.s)
    where
      go : (a b : Bool) → unsaved B y.t ≡ a → unsaved B z.t ≡ b → Dec (y.s < z.s) → 2 * y.s + cond a 1 0 < 2 * z.s + cond b 1 0
          → (y.s < z.s) ⊎ ((y.s ≡ z.s) × (y.t < z.t))
      go a b ea eb (yes h) k = inl h
      go false true ea eb (no h) k = inr (omega arith, omega (arith, oy.t_in, eqb-false y.t B.n ea, eqb-true z.t B.n eb))
      go true true ea eb (no h) k = absurd (omega arith)
      go true false ea eb (no h) k = absurd (omega arith)
      go false false ea eb (no h) k = absurd (omega arith)

  number_slot : number B y < number B z → slot B y < slot B z
  number_slot h = slot_order B.n B.m y z oy (number_first h)

module _ (F : Flag) (B : Block) (ok : Sound B) (r : Record) (ht : r.t ≤ B.n) (hv : r.v < 2 ^ B.m) where
  -- a step along an edge is in range, and its slot is below S
  pub step_below : (s' : ℕ) (wish : Bool) → B.edge r.s s' ≡ true
      → InRange B.n B.m (step_of F B r s' wish) × (slot B (step_of F B r s' wish) < slot_count B.n B.m)
  step_below s' wish e = let i = step_in_range F B ok r s' wish ht hv e in (i, slot_below B.n B.m _ i)

  module _ (s' s'' : ℕ) (w w' : Bool) (e : B.edge r.s s' ≡ true) (e' : B.edge r.s s'' ≡ true) where
    -- of two successors, one has the smaller number exactly if it has the smaller slot
    pub numbers_order : (number B (step_of F B r s' w) < number B (step_of F B r s'' w')) ↔ (slot B (step_of F B r s' w) < slot B (step_of F B r s'' w'))
    numbers_order = (number_slot B y z (step_in_range F B ok r s' w ht hv e), back)
      where
        y : Record
        y = step_of F B r s' w

        z : Record
        z = step_of F B r s'' w'

        back : slot B y < slot B z → number B y < number B z
        back h = go (dec_lt (number B y) (number B z)) (dec_lt (number B z) (number B y))
          where
            go : Dec (number B y < number B z) → Dec (number B z < number B y) → number B y < number B z
            go (yes k) l = k
            go (no k) (yes l) = let i = number_slot B z y (step_in_range F B ok r s'' w' ht hv e') l in absurd (omega arith)
            go (no k) (no l) = let q : number B y ≡ number B z = omega arith in absurd (omega (arith, ap (slot B) (same_number F B ok r s' s'' w w' e q)))
