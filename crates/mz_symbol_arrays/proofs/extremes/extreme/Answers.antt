use Rattle.std.proofs.Common.{◌≡◌, ◌∙◌, None, subst}
use Rattle.mz_core.specs.declared.types.Base.TheVariants as base
use Rattle.mz_meaning.specs.Cells.{held}
use Rattle.mz_meaning.specs.Runs.{Out}
use Rattle.mz_symbol.specs.Readings.{symbol_seen, state_of}
use Rattle.mz_symbol.proofs.ConstantLaws.{out_value, out_state}
use Rattle.mz_symbol.specs.Arguments.{as_argument}
use Rattle.mz_symbol_rows.proofs.RowLaws.{out_both}
use Rattle.mz_symbol_rows.specs.OptionValues.{guarded_value}
use Rattle.mz_symbol_arrays.proofs.ExtremeLaws.{extreme_held}
use Rattle.mz_symbol_arrays.proofs.extremes.extreme.Goals as goal

pub returns-clause-means : goal.returns-clause-means
returns-clause-means c ix r h =
    let m = c.lists.new.self in
    let e = c.in_ok-number.ensures.means r h in
    let last = c.in_ok-number.ensures.goes.back r h in
    let t = c.in_ok-term.ensures.means r last in
    let next = c.in_ok-term.ensures.goes.back r last in
    let made = subst (λ s. Out (held r.mode (as_argument s.base s.occurs (guarded_value r c.in_ok-found.found.0 s))) (state_of r c.extreme_node.new.run) ≡ Out (symbol_seen r c.in_ok-number.number) (state_of r c.guarded.new.run)) c.whole.ensures e in
    out_both (extreme_held r m c.args.side c.in-Ok.lists ix c.args.line c.in_ok-found.found.0 c.in_ok-found.found.1 c.in_ok-term.term c.in_ok-number.number (state_of r c.extreme_node.new.run) (state_of r c.guarded.new.run) c.in-Ok.ensures.lists c.in_ok-found.ensures.line next (c.are_ints.ensures c.if-not-are_ints.false) (out_value t) made) (c.lists.ensures.same r ∙ out_state t ∙ out_state e)
