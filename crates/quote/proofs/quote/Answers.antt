-- The sheet is that of the table that was opened; a refusal is handed on.
use Rattle.std.proofs.Common.{sym, ◌∙◌}
use Rattle.table.proofs.WellFormed.{opened, refused_why}
use Rattle.quote.proofs.QuoteLaws.{quote_is, quote_refused}
use Rattle.quote.proofs.quote.Goals as goal

pub returns-in_default : goal.returns-in_default
returns-in_default c = quote_refused _ _ (sym (refused_why _ _ _ _ c.open-opened.ensures c.in_default.is c.why.ensures))

pub sheet_of-requires : goal.sheet_of-requires
sheet_of-requires c = (opened _ _ _ c.open-opened.ensures c.in-Ok.is).laid

pub returns : goal.returns
returns c = quote_is _ _ (sym c.in-Ok.is ∙ c.open-opened.ensures) _ c.sheet_of.ensures
