-- A space, and then the digits that the kit gives, which are the number in decimal.
use Rattle.lines.proofs.Puts.{puts_number, adds_on, adds_by}
use Rattle.lines.proofs.page.Page.number.Goals as goal

pub returns-clause-adds : goal.returns-clause-adds
returns-clause-adds c =
    let d = c.decimal-k.ensures in
    adds_by (λ p. (puts_number _ _ _ c.ranges.n.fits d.len d.in_bounds.1 c.requires c.text.ensures.puts d.digits c.text-2.ensures.puts).0) (adds_on c.text.ensures c.text-2.ensures)
