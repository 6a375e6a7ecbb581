use Rattle.std.proofs.Common.{◌≡◌, ap, map, subst, sym, ◌∙◌}
use Rattle.fz_program.specs.Arguments.{argument}
use Rattle.fz_program.specs.Flat.{IsWellFormedRow}
use Rattle.fz_build.specs.Build.{constraint, with_row}
use Rattle.fz_build.specs.Growth.{Posts}
use Rattle.fz_build.proofs.Lists.{on_ok_weaker}
use Rattle.flat_reif_rows.specs.RootRows.{test_inputs}
use Rattle.flat_reif_rows.proofs.Tested.{test_formed, tests_by, on_ok_both}
use Rattle.flat_reif_rows.proofs.posting.post_test.Goals as goal

pub post-requires : goal.post-requires
post-requires c =
    subst (λ is. IsWellFormedRow c.args.build.now.vars (constraint c.args.name is)) (sym (ap (map argument) c.deref.ensures.value ∙ c.in-Ok.ensures))
    (test_formed c.args.kind c.args.name c.requires.row (argument c.args.a) (argument c.args.b) c.args.build.now c.requires.operands)

pub returns-clause-added : goal.returns-clause-added
returns-clause-added c =
    let same = ap (map argument) c.deref.ensures.value ∙ c.in-Ok.ensures in
    on_ok_weaker c.post.result _ _ (λ e. e ∙ ap (λ is. with_row c.args.build.now (constraint c.args.name is)) same) c.post.ensures.added

pub returns-clause-tests : goal.returns-clause-tests
returns-clause-tests c =
    let same : map argument c.deref.result.now ≡ test_inputs c.args.kind (argument c.args.a) (argument c.args.b) = ap (map argument) c.deref.ensures.value ∙ c.in-Ok.ensures in
    on_ok_both c.post.result _ _ _ (λ e g. tests_by c.args.kind c.args.name c.requires.row (argument c.args.a) (argument c.args.b) c.args.build.now c.post.new.self c.requires.operands
    (e ∙ ap (λ is. with_row c.args.build.now (constraint c.args.name is)) same)
    (subst (λ is. Posts c.args.build.now c.post.new.self (constraint c.args.name is)) same g)) c.post.ensures.added c.post.ensures.posts
