use Rattle.std.proofs.Common.{[], ◌∷◌, ap, subst, sym, ◌∙◌}
use Rattle.fz_program.specs.Arguments.{Argument, argument}
use Rattle.fz_program.specs.declared.row_name.RowName.TheVariants as rows
use Rattle.fz_program.specs.Flat.{Row, IsWellFormedRow}
use Rattle.fz_build.specs.Build.{constraint, with_row}
use Rattle.fz_build.specs.Growth.{Posts}
use Rattle.fz_build.proofs.Lists.{on_ok_weaker}
use Rattle.flat_reif_rows.proofs.Tested.{forced_row, forced_by, on_ok_both}
use Rattle.flat_reif_rows.proofs.posting.post_true.Goals as goal

abbrev row_with : Argument → Argument → Row
row_with x t = constraint rows.BoolEq (x ∷ t ∷ [])

pub post-requires : goal.post-requires
post-requires c = subst (λ t. IsWellFormedRow c.args.build.now.vars (row_with (argument c.args.a) t)) (sym c.true_argument.ensures) (forced_row c.args.build.now (argument c.args.a) c.requires)

pub returns-clause-added : goal.returns-clause-added
returns-clause-added c =
    on_ok_weaker c.post.result _ _ (λ e. e ∙ ap (λ t. with_row c.args.build.now (row_with (argument c.args.a) t)) c.true_argument.ensures) c.post.ensures.added

pub returns-clause-forced : goal.returns-clause-forced
returns-clause-forced c =
    on_ok_both c.post.result _ _ _ (λ e g. forced_by c.args.build.now c.post.new.self (argument c.args.a) c.requires
    (e ∙ ap (λ t. with_row c.args.build.now (row_with (argument c.args.a) t)) c.true_argument.ensures)
    (subst (λ t. Posts c.args.build.now c.post.new.self (row_with (argument c.args.a) t)) c.true_argument.ensures g)) c.post.ensures.added c.post.ensures.posts
