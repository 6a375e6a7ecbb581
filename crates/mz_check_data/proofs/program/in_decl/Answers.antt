use Rattle.std.proofs.Common.{◌∙◌, ◌++◌, ℕ, List, ap, sym}
use Rattle.mz_core.specs.TreeViews.{decl}
use Rattle.mz_check_data.proofs.Layers.{decl_is}
use Rattle.mz_check_data.proofs.program.in_decl.Goals as goal

pub returns : goal.returns
returns c = c.in_ok-in_declaration.ensures ∙ ap (λ (ns : List ℕ). c.args.out.now.items ++ ns) (sym (decl_is (decl c.args.d.now)))
