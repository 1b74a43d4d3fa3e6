-- The buffer keeps its length, what came fits in it, and it is what the input had first.
use Rattle.std.proofs.Common.{◌≡◌, ◌≤◌, length, take}
use Rattle.std.specs.Io.KnownBytes.{Consumes}
use Rattle.streams.proofs.read_all.Given as goal

abbrev pub invariant-loop : goal.invariant-loop
invariant-loop g l = record {
  full : length l.bytes ≡ 4449;
  fits : l.count ≤ 4449;
  came : Consumes (g.R.Read.remaining l.initial.input) (g.R.Read.remaining l.input) (take l.count l.bytes);
}
