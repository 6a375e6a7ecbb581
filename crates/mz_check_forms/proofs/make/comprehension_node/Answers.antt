use Rattle.std.proofs.Common.{◌∙◌, refl}
use Rattle.mz_core.specs.declared.tree.Core.{the_lemmas as core_lemmas}
use Rattle.mz_core.specs.declared.tree.CoreForm.{the_lemmas as form_lemmas}
use Rattle.mz_check_forms.proofs.Shapes.{tree_made}
use Rattle.mz_check_forms.proofs.make.comprehension_node.Goals as goal

pub returns : goal.returns
returns c = tree_made _ ∙ simp (core_lemmas, form_lemmas) refl
