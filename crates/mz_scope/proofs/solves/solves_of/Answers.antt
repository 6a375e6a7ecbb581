use Rattle.std.proofs.Common.{[], ◌++◌, ap, refl, ◌∙◌}
use Rattle.std.specs.List.{flat_map}
use Rattle.mz_tree.specs.Items.{item}
use Rattle.mz_scope_names.proofs.Lists.{one_read, all_read}
use Rattle.mz_scope.specs.Tests.{solve_in}
use Rattle.mz_scope.proofs.solves.solves_of.Goals as goal

pub loop-file-preserved : goal.loop-file-preserved
loop-file-preserved c =
    one_read (λ x. flat_map (λ i. solve_in (item i)) x.items.items) c.args.files.now c.loop-file.file-index c.file-item.result [] c.loop-file.out.items c.add_solves.new.out.items c.loop-file.invariant c.loop-file-test.true c.file-item.is
    (c.in_ok-add_solves.ensures ∙ ap (λ z. c.loop-file.out.items ++ flat_map (λ i. solve_in (item i)) z) c.as_slice.ensures.value)

pub returns : goal.returns
returns c = all_read (λ x. flat_map (λ i. solve_in (item i)) x.items.items) c.args.files.now c.loop-file.file-index [] c.loop-file.out.items _ c.loop-file.invariant c.loop-file-test.false refl
