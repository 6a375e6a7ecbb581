use Rattle.std.proofs.Common.{◌∙◌, ◌*◌, [], ◌∷◌, length, map, min, ap, arith, subst}
use Rattle.mz_globals.specs.declared.global.Global.TheVariants as global
use Rattle.mz_globals.specs.Order as order
use Rattle.mz_symbol.specs.Makes.{GoesOnBy}
use Rattle.glob_nodes.specs.Says.{num}
use Rattle.glob_nodes.specs.Arguments.{array_value, numbers_in}
use Rattle.glob_nodes.specs.Rows.{row_cost}
use Rattle.glob_nodes.proofs.Saying.{ok_so}
use Rattle.glob_nodes.proofs.Telling.{goes_less, goes_more}
use Rattle.glob_nodes.proofs.Rows.{arrays_row}
use Rattle.glob_order.proofs.Costs.{lex_cost}
use Rattle.glob_order.proofs.Lines.{lex_line}
use Rattle.glob_order.proofs.Meanings.{lex_told}
use Rattle.glob_order.proofs.lexical.lex.Goals as goal

pub returns-in_err-body-clause-goes : goal.returns-in_err-body-clause-goes
returns-in_err-body-clause-goes c =
    let most = lex_cost c.args.equal c.deref.result.now c.deref-2.result.now in
    subst (λ ids. GoesOnBy (56 * row_cost (global.Lex c.args.equal) (length ids ∷ length c.args.ys.now.items.items ∷ [])) c.args.run.now c.lexed.new.run) c.deref.ensures.value
    (subst (λ ids. GoesOnBy (56 * row_cost (global.Lex c.args.equal) (length c.deref.result.now ∷ length ids ∷ [])) c.args.run.now c.lexed.new.run) c.deref-2.ensures.value
    (goes_less (24 * min (length c.deref.result.now) (length c.deref-2.result.now)) (56 * row_cost (global.Lex c.args.equal) (length c.deref.result.now ∷ length c.deref-2.result.now ∷ [])) c.args.run.now c.lexed.new.run (omega (arith, most)) c.lexed.ensures.goes))

pub returns-clause-goes : goal.returns-clause-goes
returns-clause-goes c =
    subst (λ ids. GoesOnBy (56 * row_cost (global.Lex c.args.equal) (length ids ∷ length c.args.ys.now.items.items ∷ [])) c.args.run.now c.where_arrays.new.run) c.deref.ensures.value
    (subst (λ ids. GoesOnBy (56 * row_cost (global.Lex c.args.equal) (length c.deref.result.now ∷ length ids ∷ [])) c.args.run.now c.where_arrays.new.run) c.deref-2.ensures.value
    (goes_more (24 * min (length c.deref.result.now) (length c.deref-2.result.now)) 12 (56 * row_cost (global.Lex c.args.equal) (length c.deref.result.now ∷ length c.deref-2.result.now ∷ [])) c.args.run.now c.lexed.new.run c.where_arrays.new.run (lex_cost c.args.equal c.deref.result.now c.deref-2.result.now) c.in_ok-body.ensures.goes c.where_arrays.ensures.goes))

pub returns-clause-row : goal.returns-clause-row
returns-clause-row c = ok_so c.where_arrays.result c.where_arrays.ensures.says (λ id s. arrays_row c.args.run.now c.lexed.new.run c.where_arrays.new.run (global.Lex c.args.equal) (λ r. array_value r c.args.xs.now ∷ array_value r c.args.ys.now ∷ []) (order.comes_before c.args.equal) c.args.xs.now c.args.ys.now _ c.in_ok-body.body id _ 12
    (λ r. lex_line c.args.equal (c.args.xs.now.first, c.args.xs.now.last) (c.args.ys.now.first, c.args.ys.now.last) (numbers_in r c.args.xs.now) (numbers_in r c.args.ys.now))
    (λ r ns ms h k. lex_told c.args.equal r c.deref.result.now c.deref-2.result.now ns ms (ap (λ ids. map (num r) ids) c.deref.ensures.value ∙ h) (ap (λ ids. map (num r) ids) c.deref-2.ensures.value ∙ k))
    c.requires.first c.requires.second c.in_ok-body.ensures.goes c.in_ok-body.ensures.tells c.where_arrays.ensures.goes s)
