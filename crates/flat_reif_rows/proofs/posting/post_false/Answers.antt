use Rattle.std.proofs.Common.{◌≡◌, ap, false, subst, sym, true, ◌∙◌}
use Rattle.fz_program.specs.declared.row_name.Kind.TheVariants.{Bool as Truth}
use Rattle.fz_program.specs.Arguments.{argument, plain_of}
use Rattle.fz_program.specs.Flat.{is_plain}
use Rattle.fz_build.specs.Build.{with_row}
use Rattle.fz_build.proofs.Lists.{on_ok_weaker}
use Rattle.flat_reif_rows.specs.RootRows.{truth_row}
use Rattle.flat_reif_rows.proofs.Tested.{truth_constant, emptied_by}
use Rattle.flat_reif_rows.proofs.posting.post_false.Goals as goal

pub post_true-requires : goal.post_true-requires
post_true-requires c =
    subst (λ k. is_plain c.args.build.now.vars Truth (plain_of k) ≡ true) (sym c.false_argument.ensures) (truth_constant c.args.build.now.vars false)

pub returns-clause-added : goal.returns-clause-added
returns-clause-added c =
    on_ok_weaker c.post_true.result _ _ (λ e. e ∙ ap (λ k. with_row c.args.build.now (truth_row k)) c.false_argument.ensures) c.post_true.ensures.added

pub returns-clause-emptied : goal.returns-clause-emptied
returns-clause-emptied c =
    on_ok_weaker c.post_true.result _ _ (λ g. emptied_by c.args.build.now c.post_true.new.build (argument c.false_argument.result) c.false_argument.ensures g) c.post_true.ensures.forced
