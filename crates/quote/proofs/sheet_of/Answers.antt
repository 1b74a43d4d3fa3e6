-- Each field is what the called function gives, and the sizes are small.
use Rattle.std.proofs.Common.{arith}
use Rattle.quote.proofs.Sizes.{sizes_small}
use Rattle.quote.specs.Quote.{sheet_of}
use Rattle.quote.proofs.sheet_of.Goals as goal

pub overflow_mul-result : goal.overflow_mul-result
overflow_mul-result c = omega (arith, sizes_small c.args.bytes.now c.args.t c.requires)

pub overflow_add-result : goal.overflow_add-result
overflow_add-result c = omega (arith, sizes_small c.args.bytes.now c.args.t c.requires)

pub overflow_mul-result-2 : goal.overflow_mul-result-2
overflow_mul-result-2 c = omega (arith, sizes_small c.args.bytes.now c.args.t c.requires)

pub overflow_add-result-2 : goal.overflow_add-result-2
overflow_add-result-2 c = omega (arith, sizes_small c.args.bytes.now c.args.t c.requires)

pub returns : goal.returns
unfolding sheet_of
returns c = rw (c.first_with_room.ensures, c.slot_count-slots.ensures, c.edge_count-edges.ensures, c.count.ensures, c.count-2.ensures, c.count-3.ensures, c.count-4.ensures)
