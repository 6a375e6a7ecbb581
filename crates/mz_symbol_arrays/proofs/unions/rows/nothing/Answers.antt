use Rattle.mz_symbol.proofs.ConstantLaws.{out_state}
use Rattle.mz_symbol_arrays.proofs.UnionLaws.{lost}
use Rattle.mz_symbol_arrays.proofs.unions.rows.nothing.Goals as goal

pub returns-clause-lost : goal.returns-clause-lost
returns-clause-lost c r h =
    let e = c.in_ok-term.ensures.means r h in
    let b3 = c.in_ok-term.ensures.goes.back r h in
    let f = c.in_ok-no.ensures.means r b3 in
    let b2 = c.in_ok-no.ensures.goes.back r b3 in
    let s = c.in_ok-any.ensures.means r b2 in
    lost r c.args.run.now c.guard_node.new.run _ _ c.in_ok-no.no c.in_ok-any.any.term c.in_ok-term.term c.whole.result (out_state s) f e c.whole.ensures
