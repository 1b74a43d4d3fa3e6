-- The text that is copied.
use Rattle.std.proofs.Common.{rules}
use Rattle.lines.proofs.Puts.{puts_copied, puts_length}
use Rattle.lines.proofs.page.Page.text.Goals as goal

pub returns : goal.returns
returns c =
    let here = puts_copied c.args.text.now c.args.self.now.end c.args.self.now.out.now c.requires in
    rw c.copy_from_slice.ensures.after (record { puts = here; same = search rules; size = puts_length here })
