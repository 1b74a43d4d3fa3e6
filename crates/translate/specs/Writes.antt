-- What the program writes, where the bytes of its streams are known. Definitions only. Assumes nothing.
use Rattle.std.specs.Prelude.{◌≡◌, ◌⊎◌, ℕ, List, length, take, Option}
use Rattle.std.specs.Io.KnownBytes.{Appends, Consumes, IsAtEnd}
use Rattle.lines.specs.Says.{TranslateWrites}

-- The input had `left` and then has `left'`; the output held `held` and then holds `held'`. The first 4,449 bytes were read, or all there were. With
-- this buffer lines::translate makes its bytes of them, and those were written.
pub record Writes (left left' held held' : Option (List ℕ)) (out : List ℕ) : Type 0 where
  pub bytes : List ℕ
  pub came : Consumes left left' bytes
  pub all : (length bytes ≡ 4449) ⊎ IsAtEnd left'
  pub size : ℕ
  pub out' : List ℕ
  pub says : TranslateWrites bytes out size out'
  pub wrote : Appends held held' (take size out')
