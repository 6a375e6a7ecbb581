use Rattle.mz_scope_names.specs.Sketches.{decl_sketch, function_sketch}
use Rattle.mz_scope_order.specs.Scoped.{scoped_decl, lent_function}
use Rattle.mz_scope.proofs.Sequencing.{sketched, answered}
use Rattle.mz_scope.proofs.scoping.sequence_in.Goals as goal

pub returns : goal.returns
returns c =
    answered _ _ _ _ _ c.in_ok-sequence.ensures
    (sketched scoped_decl decl_sketch _ _ _ _ c.as_slice-3.ensures.value c.in_ok-decls.ensures c.as_slice.ensures.value)
    (sketched lent_function function_sketch _ _ _ _ c.as_slice-4.ensures.value c.in_ok-functions.ensures c.as_slice-2.ensures.value)
