-- What is counted of a read: never more than there is room for; and of all of them, how many bytes came. Definitions alone; proofs/Parts.antt has the
-- laws of one read. Assumes nothing.
use Rattle.std.specs.Prelude.{Bool, true, false, ℕ, zero, suc, ◌≤◌, ◌<◌, if◌then◌else◌, Result, Ok, Err}
use Rattle.std.specs.IoError.{error_kind}
use Rattle.std.specs.declared.io.Error.{Error}
use Rattle.std.specs.declared.io.ErrorKind.{ErrorKind}
use Rattle.std.specs.declared.io.ErrorKind.TheVariants as kinds
use Rattle.streams.specs.declared.Part.{Part}
use Rattle.streams.specs.declared.Part.TheVariants.{Bytes, End, Interrupted, Failed}
use Rattle.streams.specs.declared.Unread.{Unread}

-- whether it is the kind of a call that a signal interrupted
abbrev pub is_interrupted : ErrorKind → Bool
is_interrupted kinds.Interrupted = true
is_interrupted _ = false

-- what a read answers that brought n bytes, or failed; none come at the end of the input
abbrev pub part_of : Result ℕ Error → Part
part_of (Ok zero) = End
part_of (Ok (suc n)) = Bytes (suc n)
part_of (Err reason) = if is_interrupted (error_kind reason) then Interrupted reason else Failed reason

-- one read, into so much room: bytes that came are at least one
abbrev pub PartCounts : Part → ℕ → Type 0
PartCounts (Bytes n) room = (0 < n) × (n ≤ room)
PartCounts End room = Unit
PartCounts (Interrupted reason) room = Unit
PartCounts (Failed reason) room = Unit

-- the bytes that came, of a read that failed too
abbrev pub count_of : Result ℕ Unread → ℕ
count_of (Ok n) = n
count_of (Err unread) = unread.count
