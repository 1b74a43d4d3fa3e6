-- What a function that writes text into a lent buffer says. proofs/Puts.antt has the laws of writing text after text. Assumes nothing.
use Rattle.std.specs.Prelude.{◌≡◌, List, ℕ, ◌+◌, ◌*◌, ◌≤◌, length, take}
use Rattle.writing.specs.Placed.{placed}
use Rattle.lines.specs.Text.{numbers_of}
use Rattle.lines.specs.declared.page.Page.{Page}

-- the text stands from place `from` on and the rest is as it was; the answer is the place after it
pub record Puts (text : List ℕ) (from : ℕ) (w : List ℕ) (to : ℕ) (w' : List ℕ) : Type 0 where
  pub has : w' ≡ placed from text w
  pub ends : to ≡ from + length text
  pub room : to ≤ length w

-- the text is added to what the page has, in the same buffer, which keeps its length
pub record Adds (text : List ℕ) (p p' : Page) : Type 0 where
  pub puts : Puts text p.end p.out.now p'.end p'.out.now
  pub same : p'.out.ghost_name ≡ p.out.ghost_name
  pub size : length p'.out.now ≡ length p.out.now

-- the first i numbers are written
pub record Begun (ns : List ℕ) (from : ℕ) (w : List ℕ) (i to : ℕ) (w' : List ℕ) : Type 0 where
  pub text : Puts (numbers_of (take i ns)) from w to w'
  -- a number takes at most 21 bytes, its space among them
  pub short : to ≤ from + 21 * i
  pub upto : i ≤ length ns
