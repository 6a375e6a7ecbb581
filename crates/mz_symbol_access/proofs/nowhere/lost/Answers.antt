use Rattle.std.proofs.Common.{◌∙◌, ap}
use Rattle.mz_symbol_rows.specs.StepsOptions.{symbol_of}
use Rattle.mz_symbol_access.proofs.ElementLaws.{lost_symbol}
use Rattle.mz_symbol_access.proofs.nowhere.lost.Goals as goal

pub returns-clause-lost : goal.returns-clause-lost
returns-clause-lost c r h =
    let e = c.in_ok-term.ensures.means r h in
    let b3 = c.in_ok-term.ensures.goes.back r h in
    let f = c.in_ok-no.ensures.means r b3 in
    let b2 = c.in_ok-no.ensures.goes.back r b3 in
    let y = c.in_ok-yes.ensures.means r b2 in
    let b1 = c.in_ok-yes.ensures.goes.back r b2 in
    lost_symbol r c.args.run.now c.made.new.run _ _ _ c.args.base c.args.opt c.in_ok-some.some c.in_ok-yes.yes c.in_ok-no.no c.in_ok-term.term _ (c.in_ok-some.ensures.same r b1) y f e (c.symbol.ensures ∙ ap (λ o. symbol_of c.args.base o c.in_ok-term.term) c.marked.ensures)
