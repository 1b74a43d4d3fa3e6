-- Laws of specs/Puts.antt. Assumes nothing.
use Rattle.std.specs.Prelude.{◌≡◌, refl, List, [], ◌∷◌, ◌++◌, ℕ, suc, ◌+◌, ◌*◌, ◌^◌, ◌≤◌, ◌<◌, length, get_or, set, take, drop, ◌-◌}
use Rattle.std.proofs.Common.{sym, ap, ◌∙◌, subst, append_assoc, append-nil, arith, length-append, take-suc, take_all, get_or-append-add}
use Rattle.std.proofs.Math.ListN.{get_or-append}
use Rattle.writing.specs.Placed.{placed}
use Rattle.writing.proofs.Placed.{placed_none, placed_one, placed_on, part_placed, length-placed}
use Rattle.io.specs.Digits.{last_digits, IsDigitCount}
use Rattle.lines.proofs.Decimal.{decimal_is, decimal_short}
use Rattle.lines.specs.Text.{decimal_of, numbers_of, line_of}
use Rattle.lines.specs.Puts.{Puts, Begun, Adds}
use Rattle.lines.specs.declared.page.Page.{Page}

-- the buffer keeps its length
pub puts_length : {text : List ℕ} {from : ℕ} {w : List ℕ} {to : ℕ} {w' : List ℕ} → Puts text from w to w' → length w' ≡ length w
puts_length {text} {from} {w} p = let e = p.ends in let r = p.room in ap length p.has ∙ length-placed from text w (omega arith)

-- text after text
pub puts_on : {xs ys : List ℕ} {from mid to : ℕ} {w w' w'' : List ℕ} → Puts xs from w mid w' → Puts ys mid w' to w'' → Puts (xs ++ ys) from w to w''
puts_on {xs} {ys} {from} {mid} {to} {w} p q =
    let a = p.ends in
    let b = q.ends in
    let r = q.room in
    let s = p.room in
    record {
      has = q.has ∙ ap (placed mid ys) p.has ∙ placed_on from xs ys w mid a (omega arith);
      ends = omega (arith, length-append xs ys);
      room = omega (arith, puts_length p);
    }

-- ---- a text, byte by byte

pub puts_none : (from : ℕ) (w : List ℕ) → from ≤ length w → Puts [] from w (from + 0) w
puts_none from w h = record { has = placed_none from w; ends = refl; room = omega arith }

-- a text that is copied to its place
pub puts_copied : (text : List ℕ) (from : ℕ) (w : List ℕ) → from + length text ≤ length w
    → Puts text from w (from + length text) (take from w ++ (text ++ drop (from + length text - from) (drop from w)))
puts_copied text from w h = record { has = part_placed from (from + length text - from) text w (omega arith); ends = refl; room = h }

pub puts_byte : (text : List ℕ) (from i : ℕ) {w w' : List ℕ} → Puts (take i text) from w (from + i) w' → i < length text → from + length text ≤ length w
    → Puts (take (i + 1) text) from w (from + (i + 1)) (set w' (from + i) (get_or text i 0))
puts_byte text from i {w} {w'} p h r =
    let a = get_or text i 0 in
    let q : Puts (a ∷ []) (from + i) w' (from + (i + 1)) (set w' (from + i) a) =
    record { has = placed_one (from + i) a w' (omega (arith, puts_length p)); ends = omega arith; room = omega (arith, puts_length p) } in
    let e : i + 1 ≡ suc i = omega arith in
    subst (λ (l : List ℕ). Puts l from w (from + (i + 1)) (set w' (from + i) a)) (sym (ap (λ (k : ℕ). take k text) e ∙ take-suc text i 0 h)) (puts_on p q)

-- a space and a text after it
pub puts_spaced : (text : List ℕ) (from : ℕ) {w w' : List ℕ} {to : ℕ} → from < length w → Puts text (from + 1) (set w from 32) to w' → Puts (32 ∷ text) from w to w'
puts_spaced text from {w} h q = puts_on (record { has = placed_one from 32 w h; ends = refl; room = omega arith }) q

-- the digits that the kit's `decimal` gives for a number of 64 bits have room after a space, and are the number in decimal
module _ (n k : ℕ) (d : List ℕ) (small : n < 2 ^ 64) (fewest : IsDigitCount 10 1 n k) (count : k ≡ length (take k d)) {from mid : ℕ} {w w' : List ℕ} (room : from + 21 ≤ length w)
    (space : Puts (32 ∷ []) from w mid w') where
  pub digits_fit : mid + length (take k d) ≤ length w'
  digits_fit = let e = space.ends in omega (arith, decimal_short n k small fewest, count, puts_length space)

  pub puts_number : {to : ℕ} {w'' : List ℕ} → take k d ≡ last_digits 10 k n → Puts (take k d) mid w' to w'' → Puts (32 ∷ decimal_of n) from w to w'' × (to ≤ from + 21)
  puts_number {to} {w''} e p =
      let short = decimal_short n k small fewest in
      let ends = p.ends in
      let s = space.ends in
      (subst (λ (l : List ℕ). Puts (32 ∷ l) from w to w'') (e ∙ decimal_is n k fewest short) (puts_on space p), omega (arith, count))

pub puts_all : (text : List ℕ) (from i : ℕ) {w w' : List ℕ} → Puts (take i text) from w (from + i) w' → length text ≤ i → Puts text from w (from + i) w'
puts_all text from i {w} {w'} p h = subst (λ (l : List ℕ). Puts l from w (from + i) w') (take_all i text h) p

-- ---- a page

-- text after text
pub adds_on : {xs ys : List ℕ} {p q r : Page} → Adds xs p q → Adds ys q r → Adds (xs ++ ys) p r
adds_on a b = record { puts = puts_on a.puts b.puts; same = b.same ∙ a.same; size = b.size ∙ a.size }

-- the same text by another name
pub adds_as : {xs ys : List ℕ} {p q : Page} → xs ≡ ys → Adds xs p q → Adds ys p q
adds_as {p = p} {q = q} e a = subst (λ (l : List ℕ). Adds l p q) e a

-- or by a law of the text
pub adds_by : {xs ys : List ℕ} {p q : Page} → (Puts xs p.end p.out.now q.end q.out.now → Puts ys p.end p.out.now q.end q.out.now) → Adds xs p q → Adds ys p q
adds_by f a = record { puts = f a.puts; same = a.same; size = a.size }

-- ---- a line: a word, then numbers

pub numbers_append : (xs ys : List ℕ) → numbers_of (xs ++ ys) ≡ numbers_of xs ++ numbers_of ys
unfolding numbers_of
numbers_append [] ys = refl
numbers_append (x ∷ xs) ys = ap (λ (l : List ℕ). (32 ∷ decimal_of x) ++ l) (numbers_append xs ys) ∙ sym (append_assoc (32 ∷ decimal_of x) (numbers_of xs) (numbers_of ys))

-- the first i numbers and one more
one_more : (ns : List ℕ) (i : ℕ) → i < length ns → numbers_of (take (i + 1) ns) ≡ numbers_of (take i ns) ++ (32 ∷ decimal_of (get_or ns i 0))
unfolding numbers_of
one_more ns i h =
    let e : i + 1 ≡ suc i = omega arith in
    ap (λ (k : ℕ). numbers_of (take k ns)) e
    ∙ ap numbers_of (take-suc ns i 0 h)
    ∙ numbers_append (take i ns) (get_or ns i 0 ∷ [])
    ∙ ap (λ (l : List ℕ). numbers_of (take i ns) ++ l) (append-nil (32 ∷ decimal_of (get_or ns i 0)))

pub begun : (ns : List ℕ) (from : ℕ) (w : List ℕ) → from ≤ length w → Begun ns from w 0 from w
unfolding numbers_of
begun ns from w h = record { text = record { has = placed_none from w; ends = omega arith; room = h }; short = omega arith; upto = omega arith }

-- one number more
pub begun_on : {ns : List ℕ} {from i mid to n : ℕ} {w w' w'' : List ℕ} → Begun ns from w i mid w' → i < length ns → n ≡ get_or ns i 0
    → Puts (32 ∷ decimal_of n) mid w' to w'' → to ≤ mid + 21 → Begun ns from w (i + 1) to w''
begun_on {ns} {from} {i} {mid} {to} {n} {w} {w'} {w''} b h e p l =
    let s = b.short in
    record {
      text = subst (λ (l : List ℕ). Puts l from w to w'') (ap (λ (x : ℕ). numbers_of (take i ns) ++ (32 ∷ decimal_of x)) e ∙ sym (one_more ns i h)) (puts_on b.text p);
      short = omega arith;
      upto = omega arith;
    }

-- where a line stands that has its word and i numbers
pub line_room : {word ns : List ℕ} {at from i mid : ℕ} {w w' w'' : List ℕ} → Puts word at w from w' → Begun ns from w' i mid w''
    → (length w'' ≡ length w) × (mid ≤ at + length word + 21 * i)
line_room p b = let e = p.ends in let s = b.short in (puts_length b.text ∙ puts_length p, omega arith)

-- the word before them and the end of the line after them
pub line_done : {word ns : List ℕ} {at from i mid to : ℕ} {w w' w'' w''' : List ℕ} → Puts word at w from w' → Begun ns from w' i mid w'' → length ns ≤ i
    → Puts (10 ∷ []) mid w'' to w''' → Puts (line_of word ns) at w to w'''
line_done {word} {ns} {at} {from} {i} {mid} {to} {w} {w'} {w''} {w'''} p b h q =
    subst (λ (l : List ℕ). Puts (word ++ numbers_of l ++ (10 ∷ [])) at w to w''') (take_all i ns h) (puts_on (puts_on p b.text) q)

-- ---- a line on a page

-- a line's word and the first i of its numbers are added
pub record OnPage (word ns : List ℕ) (p : Page) (i : ℕ) (p' : Page) : Type 0 where
  -- the page after the word
  pub after : Page
  pub word_put : Adds word p after
  pub numbers : Begun ns after.end after.out.now i p'.end p'.out.now
  pub same : p'.out.ghost_name ≡ after.out.ghost_name
  pub size : length p'.out.now ≡ length after.out.now

pub line_begins : {word : List ℕ} (ns : List ℕ) {p q : Page} → Adds word p q → OnPage word ns p 0 q
line_begins ns {p} {q} a =
    let r = a.puts.room in
    record { after = q; word_put = a; numbers = begun ns q.end q.out.now (omega (arith, a.size)); same = refl; size = refl }

pub line_goes_on : {word ns : List ℕ} {p q r : Page} {i n : ℕ} → OnPage word ns p i q → i < length ns → n ≡ get_or ns i 0 → Adds (32 ∷ decimal_of n) q r → r.end ≤ q.end + 21
    → OnPage word ns p (i + 1) r
line_goes_on b h e a l =
    record { after = b.after; word_put = b.word_put; numbers = begun_on b.numbers h e a.puts l; same = a.same ∙ b.same; size = a.size ∙ b.size }

pub line_ends : {word ns : List ℕ} {p q r : Page} {i : ℕ} → OnPage word ns p i q → length ns ≤ i → Adds (10 ∷ []) q r → Adds (line_of word ns) p r
line_ends b h a =
    record { puts = line_done b.word_put.puts b.numbers h a.puts; same = a.same ∙ b.same ∙ b.word_put.same; size = a.size ∙ b.size ∙ b.word_put.size }

-- the numbers of a line are the few and then the states
module _ {word : List ℕ} (few states : List ℕ) {p q r : Page} {i : ℕ} where
  pub few_on : OnPage word (few ++ states) p i q → i < length few → Adds (32 ∷ decimal_of (get_or few i 0)) q r → r.end ≤ q.end + 21 → OnPage word (few ++ states) p (i + 1) r
  few_on b h a l = line_goes_on b (omega (arith, length-append few states)) (sym (get_or-append few states 0 i h)) a l

  pub states_on : OnPage word (few ++ states) p (length few + i) q → i < length states → Adds (32 ∷ decimal_of (get_or states i 0)) q r → r.end ≤ q.end + 21
      → OnPage word (few ++ states) p (length few + (i + 1)) r
  states_on b h a l =
      let e : length few + i + 1 ≡ length few + (i + 1) = omega arith in
      rw (← e) (line_goes_on b (omega (arith, length-append few states)) (sym (get_or-append-add few states i 0)) a l)
