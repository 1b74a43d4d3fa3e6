-- Three lines one after the other.
use Rattle.std.proofs.Common.{ap, append-nil, rules, tests}
use Rattle.lines.specs.Text.{members_word, line_of, board_line}
use Rattle.lines.specs.Puts.{Adds}
use Rattle.lines.proofs.Puts.{adds_on, adds_as}
use Rattle.lines.proofs.lines.sheet_lines.Goals as goal

pub returns-clause-adds : goal.returns-clause-adds
returns-clause-adds c =
    let members = ap (line_of members_word) (append-nil c.args.sheet.members) in
    let board : Adds (board_line c.args.sheet.board) c.line.new.self c.board_line.new.page = adds_as (ap board_line (search (rules, tests))) c.board_line.ensures.adds in
    adds_on (adds_on c.line.ensures.adds board) (adds_as members c.line-2.ensures.adds)
