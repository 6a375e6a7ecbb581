use Rattle.std.proofs.Common.{◌≡◌, ◌∙◌, true, length, map, sym, ap, subst}
use Rattle.std.specs.Option.{option_map}
use Rattle.mz_operations.specs.Arguments.{arguments}
use Rattle.mz_operations.specs.Arrays.{is_shape_of}
use Rattle.mz_operations.specs.Bounds as bounds
use Rattle.mz_builtin_values.specs.Shapes.{shape_of}
use Rattle.mz_meaning.specs.Cells.{Var}
use Rattle.mz_eval_cells.specs.Views.{known_bound, origins_value}
use Rattle.mz_eval_rows.proofs.ReshapedLaws.{reshaped_held}
use Rattle.mz_eval_rows.proofs.reshaped.reshaped_items.Goals as goal

pub returns : goal.returns
returns c r h jx ws b keeps e =
    let xs = c.args.xs.now.value in
    let ix = c.args.ix.now.value.items in
    let w = shape_of c.in-Some.w in
    ap (λ v. Var (bounds.many ix (map known_bound c.args.all.now.value.items)) v)
    (reshaped_held r.mode b c.args.d (arguments c.args.args.now) ws w ix jx xs.cast (origins_value r.line xs.origins) (length xs.bounds.value.items) keeps
    (sym c.in_ok-found.ensures ∙ ap (option_map shape_of) c.in-Some.is) e (c.has_ranges.ensures c.if-not-has_ranges.false)
    (subst (λ n. is_shape_of w n ≡ true) c.count_of-n.ensures (sym c.fits.ensures ∙ c.if-not-fits.false))
    (c.is_whole.ensures c.if-not-is_whole.false r h))
    ∙ c.in_ok-k.ensures r
