-- The number whose four bytes are copied is the remainder of x by 2^32, and its bytes are those of the little-endian number x.
use Rattle.std.specs.Int.{to_le_bytes, w32}
use Rattle.std.proofs.Common.{◌≡◌, ◌∙◌, ◌/◌, ◌%◌, ◌+◌, ◌-◌, ℕ, [], ◌∷◌, arith, refl}
use Rattle.table.specs.Layout.{little_endian}
use Rattle.writing.proofs.Placed.{part_placed}
use Rattle.writing.proofs.put.Goals as goal

-- the low 32 bits have the same four bytes
first : (x : ℕ) → x % 4294967296 % 256 ≡ x % 256
first x = omega arith

second : (x : ℕ) → x % 4294967296 / 256 % 256 ≡ x / 256 % 256
second x = omega arith

third : (x : ℕ) → x % 4294967296 / 65536 % 256 ≡ x / 65536 % 256
third x = omega arith

fourth : (x : ℕ) → x % 4294967296 / 16777216 % 256 ≡ x / 16777216 % 256
fourth x = omega arith

-- so the four bytes of a number that is the low 32 bits of x are those of x
low_bytes : (x y : ℕ) → y ≡ x % 4294967296 → to_le_bytes w32 y ≡ little_endian (x ∷ [])
low_bytes x y e = rw (e, first x, second x, third x, fourth x)

pub returns : goal.returns
returns c =
    let d : c.args.at + 4 - c.args.at ≡ 4 = omega arith in
    let copied : c.to_le_bytes.result ≡ little_endian (c.args.x ∷ []) = c.to_le_bytes.ensures ∙ low_bytes c.args.x _ (omega arith) in
    rw (c.copy_from_slice.ensures.after, copied, d) (part_placed _ _ _ _ refl)
