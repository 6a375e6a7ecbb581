use Rattle.std.proofs.Common.{◌∙◌, sym, ap}
use Rattle.mz_arena.specs.Values.{guard_term}
use Rattle.mz_symbol.proofs.ConstantLaws.{out_value, out_state}
use Rattle.mz_symbol_rows.proofs.RowLaws.{out_both}
use Rattle.mz_symbol_access.proofs.ShiftLaws.{offset_is}
use Rattle.mz_symbol_access.proofs.shift.offset_node.Goals as goal

pub returns-clause-means : goal.returns-clause-means
returns-clause-means c r h =
    let g = c.in_ok-term.ensures.means r h in
    let back = c.in_ok-term.ensures.goes.back r h in
    let s = c.in-Ok.ensures.shifts r back in
    let i = c.in_ok-inside.ensures.means r (c.in-Ok.ensures.goes.back r back) in
    out_both (sym (offset_is r c.inside_node.new.run c.shifted.new.run c.args.range.now c.args.one c.args.x c.in-Ok.off s) ∙ ap (λ b. guard_term b (r.term c.in-Ok.off)) (out_value i) ∙ out_value g) (out_state i ∙ s.same ∙ out_state g)
