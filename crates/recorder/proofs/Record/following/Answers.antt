-- In each of its four cases the slot number is one more.
use Rattle.std.proofs.Common.{◌≡◌, ◌+◌, ◌^◌, ◌≤◌, ◌<◌, ℕ, true, false, arith, pow_pos}
use Rattle.std.proofs.lemmas.Bool.{not-true, not-false}
use Rattle.recorder.specs.Slots.{slot_of, record_of_slot, InRange}
use Rattle.recorder.specs.declared.Record.{Record}
use Rattle.recorder.proofs.Slots.{next_slot}
use Rattle.recorder.proofs.Fits.{one_shl}
use Rattle.recorder.proofs.Record.following.Goals as goal

module _ (n m : ℕ) (r : Record) (ok : InRange n m r) where
  abbrev Next : Record → Type 0
  Next r' = r' ≡ record_of_slot n m (slot_of n m r + 1)

  v_on : r.v + 1 < 2 ^ m → Next (record { s = r.s; t = r.t; live = r.live; v = r.v + 1 })
  unfolding slot_of
  v_on h = next_slot n m r _ ok.t_in h (omega arith)

  -- the bits end
  module _ (h : 2 ^ m ≤ r.v + 1) where
    live_on : r.live ≡ false → Next (record { s = r.s; t = r.t; live = true; v = 0 })
    unfolding slot_of
    live_on e = next_slot n m r _ ok.t_in (pow_pos m) (rw e (omega (arith, ok.v_in)))

    t_on : r.live ≡ true → r.t < n → Next (record { s = r.s; t = r.t + 1; live = false; v = 0 })
    unfolding slot_of
    t_on e l = next_slot n m r _ (omega arith) (pow_pos m) (rw e (omega (arith, ok.v_in)))

    s_on : r.live ≡ true → n ≤ r.t → Next (record { s = r.s + 1; t = 0; live = false; v = 0 })
    unfolding slot_of
    s_on e l =
        let d : r.t ≡ n = omega (arith, ok.t_in) in
        next_slot n m r _ (omega arith) (pow_pos m) (rw (e, d) (omega (arith, ok.v_in)))

-- the code's limit of v is 2^m
pub returns-then-v-m : goal.returns-then-v-m
returns-then-v-m c = v_on _ _ _ c.requires.2 (omega (arith, c.if-v-m.true, one_shl c.args.m (omega arith)))

-- where v + 1 is not below it the bits end
pub returns-then-not-self : goal.returns-then-not-self
returns-then-not-self c = live_on _ _ _ c.requires.2 (omega (arith, c.if-v-m.false, one_shl c.args.m (omega arith))) (not-true _ c.if-not-self.true)

pub returns-then-self-n : goal.returns-then-self-n
returns-then-self-n c = t_on _ _ _ c.requires.2 (omega (arith, c.if-v-m.false, one_shl c.args.m (omega arith))) (not-false _ c.if-not-self.false) c.if-self-n.true

pub returns : goal.returns
returns c = s_on _ _ _ c.requires.2 (omega (arith, c.if-v-m.false, one_shl c.args.m (omega arith))) (not-false _ c.if-not-self.false) c.if-self-n.false
