-- What the program prints, where the bytes of its streams are known. Definitions only. Assumes nothing.
use Rattle.std.specs.Prelude.{◌≡◌, ◌⊎◌, ℕ, List, length, take, Option}
use Rattle.std.specs.Io.KnownBytes.{Appends, Consumes, IsAtEnd}
use Rattle.lines.specs.Says.{VerdictSays}

-- The input had `left` and then has `left'`; the output held `held` and then holds `held'`. The first 4,449 bytes were read, or all there were. With
-- these buffers lines::verdict makes its text of them, and that was written.
pub record Prints (left left' held held' : Option (List ℕ)) (work report out : List ℕ) : Type 0 where
  pub bytes : List ℕ
  pub came : Consumes left left' bytes
  pub all : (length bytes ≡ 4449) ⊎ IsAtEnd left'
  pub size : ℕ
  pub work' : List ℕ
  pub report' : List ℕ
  pub out' : List ℕ
  pub says : VerdictSays bytes work report out size work' report' out'
  pub wrote : Appends held held' (take size out')
