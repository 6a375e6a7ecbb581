use Rattle.std.proofs.Common.{◌∙◌}
use Rattle.mz_symbol.proofs.ConstantLaws.{out_value, out_state}
use Rattle.mz_symbol_rows.proofs.RowLaws.{out_both}
use Rattle.mz_symbol_access.proofs.ElementLaws.{found_held, found_same, empty_held}
use Rattle.mz_symbol_access.proofs.element.access.Goals as goal

pub returns-then-is_none-clause-means : goal.returns-then-is_none-clause-means
returns-then-is_none-clause-means c r h =
    let e = c.in_ok-none.ensures.means r h in
    let back = c.in_ok-none.ensures.goes.back r h in
    out_both (empty_held r c.lists.new.self c.args.base c.args.opt c.args.ranges.now c.args.indices.now c.args.line c.in_ok-found.found.0 c.in_ok-found.found.1 (c.is_none.ensures c.if-is_none.true) c.in_ok-found.ensures.line back ∙ out_value e) (c.lists.ensures.same r ∙ out_state e)

pub returns-clause-means : goal.returns-clause-means
returns-clause-means c r h =
    let m = c.lists.new.self in
    let w = c.in-Ok-found_item.ensures.found r h in
    let back = c.in-Ok-found_item.ensures.goes.back r h in
    out_both (found_held c.args.opt r m c.found_item.new.run c.args.base c.in-Ok.lists c.args.ranges.now c.args.indices.now c.args.line c.in_ok-found.found.0 c.in_ok-found.found.1 c.in-Ok-found_item.item c.in-Ok.ensures.lists c.in_ok-found.ensures.line back (c.is_base.ensures c.if-not-is_base.false) (c.has_count.ensures c.if-not-has_count.false) w) (c.lists.ensures.same r ∙ found_same c.args.opt r m c.found_item.new.run c.args.ranges.now c.args.indices.now c.args.base c.in_ok-found.found.0 c.in-Ok.lists c.in-Ok-found_item.item w)
