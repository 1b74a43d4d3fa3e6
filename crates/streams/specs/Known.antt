-- What one read does to the bytes that an input has left, where those are known, and of which kind its error is. Definitions alone. Assumes nothing.
use Rattle.std.specs.Prelude.{◌≡◌, ◌≢◌, ◌<◌, ℕ, List, ⊤, length, take, Option}
use Rattle.std.specs.IoError.{error_kind}
use Rattle.std.specs.Io.KnownBytes.{Consumes, IsAtEnd, Keeps}
use Rattle.std.specs.declared.io.ErrorKind.TheVariants as kinds
use Rattle.streams.specs.declared.Part.{Part}
use Rattle.streams.specs.declared.Part.TheVariants.{Bytes, End, Interrupted, Failed}

-- one read into `part`: the bytes that came are the input's next; with room for one more there is an end only where none is left; a read that fails
-- takes none
abbrev pub PartReads : Option (List ℕ) → Option (List ℕ) → Part → List ℕ → Type 0
PartReads old new (Bytes n) part = Consumes old new (take n part)
PartReads old new End part = Keeps old new × (0 < length part → IsAtEnd new)
PartReads old new (Interrupted reason) part = Keeps old new
PartReads old new (Failed reason) part = Keeps old new

-- only a read that a signal interrupted is told as interrupted, and no such read as failed
abbrev pub PartReason : Part → Type 0
PartReason (Bytes n) = ⊤
PartReason End = ⊤
PartReason (Interrupted reason) = error_kind reason ≡ kinds.Interrupted
PartReason (Failed reason) = error_kind reason ≢ kinds.Interrupted
