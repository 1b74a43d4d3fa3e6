-- The workspace is cleared, the starts are queued and scanned, and what the scan saw is the answer. The laws are those of proofs/FindLaws.antt.
use Rattle.std.proofs.Common.{rules}
use Rattle.search.proofs.FindLaws.{find_holds, path_climbs, len_fits, len_some, odds_some, find_lasso}
use Rattle.search.proofs.find.Goals as goal

pub returns-in_default : goal.returns-in_default
returns-in_default c = find_holds c.requires c.clear.ensures c.queue_starts-queue.ensures.says c.queue_starts-queue.ensures.slots c.in_default.ensures.says c.clear-in_default.ensures (search rules)

pub path_length-len-requires : goal.path_length-len-requires
path_length-len-requires c =
    let q = c.queue_starts-queue.ensures in
    let k = c.in-Some.ensures in
    path_climbs c.requires c.clear.ensures q.says q.slots k.says k.same.slots

pub write_path-unsaved-requires-clause-climbs : goal.write_path-unsaved-requires-clause-climbs
write_path-unsaved-requires-clause-climbs c =
    let q = c.queue_starts-queue.ensures in
    let k = c.in-Some.ensures in
    path_climbs c.requires c.clear.ensures q.says q.slots k.says k.same.slots

pub write_path-unsaved-requires-clause-len_value : goal.write_path-unsaved-requires-clause-len_value
write_path-unsaved-requires-clause-len_value c =
    let q = c.queue_starts-queue.ensures in
    let k = c.in-Some.ensures in
    len_fits c.requires c.clear.ensures q.says q.slots k.says k.same.slots c.path_length-len.ensures

pub overflow_sub-result : goal.overflow_sub-result
overflow_sub-result c =
    let q = c.queue_starts-queue.ensures in
    let k = c.in-Some.ensures in
    len_some c.requires c.clear.ensures q.says q.slots k.says k.same.slots c.path_length-len.ensures

pub overflow_sub-result-2 : goal.overflow_sub-result-2
overflow_sub-result-2 c =
    let q = c.queue_starts-queue.ensures in
    let k = c.in-Some.ensures in
    odds_some c.requires c.clear.ensures q.says q.slots k.says k.same.slots c.path_length-len.ensures c.write_path-unsaved.ensures.value

pub returns : goal.returns
returns c =
    let q = c.queue_starts-queue.ensures in
    let k = c.in-Some.ensures in
    let p = c.write_path-unsaved.ensures in
    find_lasso c.requires c.clear.ensures q.says q.slots k.says k.same.slots c.path_length-len.ensures p.value p.report_after c.clear-2.ensures
    (search rules)
