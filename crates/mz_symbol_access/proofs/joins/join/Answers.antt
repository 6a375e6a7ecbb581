use Rattle.std.proofs.Common.{◌∙◌, ◌+◌, ◌*◌, length, refl, slice_get}
use Rattle.mz_symbol.proofs.ConstantLaws.{out_value, out_state}
use Rattle.mz_symbol_rows.proofs.RowLaws.{out_both}
use Rattle.mz_symbol_rows.proofs.GoingOn.{goes_both, goes_most}
use Rattle.mz_symbol_arrays.specs.LineValues.{count_of}
use Rattle.mz_symbol_access.proofs.ItemLaws.{same_items}
use Rattle.mz_symbol_access.proofs.LineLaws.{stands_value}
use Rattle.mz_symbol_access.proofs.JoinLaws.{reading_of, read_by, joined_cost, joined_is, joined_whole}
use Rattle.mz_symbol_access.proofs.joins.join.Goals as goal

pub push_line-requires : goal.push_line-requires
push_line-requires c t z =
    let run = c.alike_items.new.run in
    let r = reading_of t run in
    let h = read_by t run z in
    let w = c.in-Ok-alike_items.ensures.replaces r h in
    let back = c.in-Ok-alike_items.ensures.goes.back r h in
    let e = c.in-Ok.ensures.means r back in
    let are = c.in_ok-items.ensures in
    λ u. same_items t c.in_ok-items.items.items c.in-Ok-alike_items.all.items w.are (joined_whole t c.args.run.now c.args.x c.args.y c.in_ok-p.p.0 c.in_ok-q.q.0 c.in_ok-p.p.1 c.in_ok-q.q.1 c.in-Ok.d are.first are.second c.in_ok-items.items.items c.in_ok-p.ensures.line c.in_ok-q.ensures.line are.of_first are.of_second are.all (c.in-Ok.ensures.goes.back r back).nodes (out_value e) u)

pub returns-clause-goes : goal.returns-clause-goes
returns-clause-goes c =
    let are = c.in_ok-items.ensures in
    let n = length c.in_ok-items.items.items in
    let m = length c.in-Ok-alike_items.all.items in
    goes_most (6 + 4 * n + 16 * m) (20 * count_of (slice_get c.args.run.now.lines c.args.x) + 20 * count_of (slice_get c.args.run.now.lines c.args.y) + 6) c.args.run.now c.push_line.new.self
    (joined_cost c.args.run.now c.args.x c.args.y are.first are.second c.in_ok-items.items.items c.in-Ok-alike_items.all.items are.of_first are.of_second are.all c.in-Ok-alike_items.ensures.count)
    (goes_both (6 + 4 * n) (16 * m) c.args.run.now c.alike_items.new.run c.push_line.new.self
    (goes_both 6 (4 * n) c.args.run.now c.and_node.new.run c.alike_items.new.run c.in-Ok.ensures.goes c.in-Ok-alike_items.ensures.goes)
    c.in_ok-line.ensures.goes)

pub returns-clause-means : goal.returns-clause-means
returns-clause-means c r h =
    let g = c.in_ok-line.ensures.means r h in
    let last = c.in_ok-line.ensures.goes.back r h in
    let w = c.in-Ok-alike_items.ensures.replaces r last in
    let back = c.in-Ok-alike_items.ensures.goes.back r last in
    let e = c.in-Ok.ensures.means r back in
    let first = c.in-Ok.ensures.goes.back r back in
    let are = c.in_ok-items.ensures in
    let d = c.in-Ok.d in
    let items = c.in_ok-items.items.items in
    let whole = joined_whole r.term c.args.run.now c.args.x c.args.y c.in_ok-p.p.0 c.in_ok-q.q.0 c.in_ok-p.p.1 c.in_ok-q.q.1 d are.first are.second items c.in_ok-p.ensures.line c.in_ok-q.ensures.line are.of_first are.of_second are.all first.nodes (out_value e) in
    out_both
    (joined_is r c.args.run.now c.args.x c.args.y c.in_ok-p.p.0 c.in_ok-q.q.0 c.in_ok-p.p.1 c.in_ok-q.q.1 d are.first are.second items c.in_ok-p.ensures.line c.in_ok-q.ensures.line are.of_first are.of_second are.all first (out_value e)
    ∙ stands_value r.term d d items c.in-Ok-alike_items.all.items refl w.are whole
    ∙ out_value g)
    (out_state e ∙ w.same ∙ out_state g)
