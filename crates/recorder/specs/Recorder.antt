-- The recorder. docs/RULES.md, "The recorder": the record, its step with a save wish, which records are bad. Then the runs of records and the
-- two ways between them and the original's runs, for the third demand. Definitions only. Assumes nothing.
use Rattle.std.specs.Prelude.{◌≡◌, Bool, true, false, not, cond, ◌&&◌, List, [], ◌∷◌, map, ℕ, zero, suc, ◌+◌, ◌-◌, ◌*◌, ◌^◌, ◌<◌, eqb, length, get_or}
use Rattle.std.specs.Int.Bits.{bit_or}
use Rattle.recorder.specs.Block.{Block}
use Rattle.recorder.specs.Flag.{Flag}
use Rattle.recorder.specs.declared.Record.{Record}

module _ (B : Block) where
  -- nothing is saved
  abbrev pub unsaved : ℕ → Bool
  unsaved t = eqb t B.n

  -- t': s where the wish is on and nothing is saved, else t
  abbrev pub save_of : Record → Bool → ℕ
  save_of r wish = cond (wish && unsaved r.t) r.s r.t

  -- bad: s = t, the flag 0, and all m bits set
  abbrev pub bad_of : Record → Bool
  bad_of r = eqb r.s r.t && not r.live && eqb r.v (2 ^ B.m - 1)

  -- the goal mark of a record is its state's
  abbrev pub goal_of : Record → Bool
  goal_of r = B.goal r.s

module _ (F : Flag) (B : Block) where
  abbrev pub start_of : ℕ → Record
  start_of s = record { s = s; t = B.n; live = F.first; v = 0 }

  -- the record after r: at the state s', with t' saved
  abbrev pub moved : Record → ℕ → ℕ → Record
  moved r s' t' = record {
    s = s';
    t = t';
    live = F.next r.live (not (unsaved B t')) (B.goal r.s);
    v = cond (unsaved B t') r.v (bit_or r.v (B.fair r.s));
  }

  -- a step along the edge from r's state to s', with a save wish
  abbrev pub step_of : Record → ℕ → Bool → Record
  step_of r s' wish = moved r s' (save_of B r wish)

  -- r' is a step from r, with some wish
  abbrev pub StepTo : Record → Record → Type 0
  StepTo r r' = (wish : Bool) × (B.edge r.s r'.s ≡ true) × (r' ≡ step_of r r'.s wish)

-- the record at place i; past the end, one of zeros, of which nothing is said
abbrev pub zeros : Record
zeros = record { s = 0; t = 0; live = false; v = 0 }

abbrev pub record_of : List Record → ℕ → Record
record_of rs i = get_or rs i zeros

-- a finite run of records from a start
pub record RecordRun (F : Flag) (B : Block) (rs : List Record) : Type 0 where
  pub some : 0 < length rs
  pub starts : (s : ℕ) × (B.start s ≡ true) × (record_of rs 0 ≡ start_of F B s)
  pub steps : (i : ℕ) → suc i < length rs → StepTo F B (record_of rs i) (record_of rs (suc i))

-- where to record: nowhere, or at a place
pub data Choice : Type 0 where
  none : Choice
  place : ℕ → Choice

-- any place but the last of a run of len states, or none
abbrev pub Fits : Choice → ℕ → Type 0
Fits none len = Unit {0}
Fits (place l) len = suc l < len

-- the wish at this place, on where the choice says place 0; and the choice counted from the next place
abbrev pub wished : Choice → Bool
wished none = false
wished (place zero) = true
wished (place (suc l)) = false

abbrev pub later : Choice → Choice
later none = none
later (place zero) = none
later (place (suc l)) = place l

-- a choice counted from one place before
abbrev pub earlier : Choice → Choice
earlier none = none
earlier (place l) = place (suc l)

-- the records of a run with a choice: from the start on, the wish is on where the choice says
module _ (F : Flag) (B : Block) where
  abbrev pub after : Record → List ℕ → Choice → List Record
  after r [] c = []
  after r (s' ∷ ss) c = step_of F B r s' (wished c) ∷ after (step_of F B r s' (wished c)) ss (later c)

  abbrev pub record_at : List ℕ → Choice → List Record
  record_at [] c = []
  record_at (s ∷ ss) c = start_of F B s ∷ after (start_of F B s) ss c

-- the states alone
abbrev pub strike : List Record → List ℕ
strike rs = map (λ r. r.s) rs

-- the place of the first record with a saved state
abbrev pub first_saved : Block → List Record → Choice
first_saved B [] = none
first_saved B (r ∷ rs) = cond (unsaved B r.t) (earlier (first_saved B rs)) (place 0)

-- what was recorded: place l, where record l + 1 is the first with a saved state
abbrev pub choice_of : Block → List Record → Choice
choice_of B [] = none
choice_of B (r ∷ rs) = first_saved B rs

-- a record's number in a word: 2·s, plus 1 while nothing is saved
abbrev pub number : Block → Record → ℕ
number B r = 2 * r.s + cond (unsaved B r.t) 1 0
