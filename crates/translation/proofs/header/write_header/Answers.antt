-- The seven numbers stand one after the other.
use Rattle.writing.proofs.Header.{header_written}
use Rattle.translation.proofs.header.write_header.Goals as goal

pub returns : goal.returns
returns c =
    header_written 2 c.args.slots c.args.edges 0 c.args.part.now c.requires.part_len c.put.ensures c.put-2.ensures c.put-3.ensures c.put-4.ensures
    c.put-5.ensures c.put-6.ensures c.put-7.ensures
