use Rattle.std.proofs.Common.{◌∙◌, subst}
use Rattle.mz_symbol.proofs.ConstantLaws.{out_value, out_state}
use Rattle.mz_symbol_rows.proofs.RowLaws.{out_both}
use Rattle.mz_symbol_access.specs.StepsChoose.{AreChosen}
use Rattle.mz_symbol_access.proofs.LineLaws.{reading_of, read_by, chosen_is, chosen_whole}
use Rattle.mz_symbol_access.proofs.lines.choose_elements.Goals as goal

pub returns-clause-whole : goal.returns-clause-whole
returns-clause-whole c t z =
    let run = c.chosen_items.new.run in
    let r = reading_of t run in
    let h = read_by t run z in
    let back = c.in-Ok.ensures.goes.back r h in
    let e = c.in_ok-defined.ensures.means r back in
    let w = c.in-Ok.ensures.chooses r h in
    let first = c.in_ok-first.first.items.items in
    let second = c.in_ok-second.second.items.items in
    let are = subst (λ ps. AreChosen t c.args.cond ps second c.in-Ok.items.items) c.deref.ensures.value (subst (λ qs. AreChosen t c.args.cond c.deref.result.now qs c.in-Ok.items.items) c.deref-2.ensures.value w.are) in
    chosen_whole t c.args.run.now c.args.cond c.args.p c.args.q c.in_ok-first.first.defined c.in_ok-second.second.defined c.in_ok-defined.defined first second c.in-Ok.items.items c.in_ok-first.ensures c.in_ok-second.ensures (c.in_ok-defined.ensures.goes.back r back).nodes (out_value e) are

pub returns-clause-means : goal.returns-clause-means
returns-clause-means c r h =
    let w = c.in-Ok.ensures.chooses r h in
    let back = c.in-Ok.ensures.goes.back r h in
    let e = c.in_ok-defined.ensures.means r back in
    let first = c.in_ok-first.first.items.items in
    let second = c.in_ok-second.second.items.items in
    let are = subst (λ ps. AreChosen r.term c.args.cond ps second c.in-Ok.items.items) c.deref.ensures.value (subst (λ qs. AreChosen r.term c.args.cond c.deref.result.now qs c.in-Ok.items.items) c.deref-2.ensures.value w.are) in
    out_both (chosen_is r c.args.run.now c.args.cond c.args.p c.args.q c.in_ok-first.first.defined c.in_ok-second.second.defined c.in_ok-defined.defined first second c.in-Ok.items.items c.in_ok-first.ensures c.in_ok-second.ensures (c.in_ok-defined.ensures.goes.back r back) (out_value e) are) (out_state e ∙ w.same)
