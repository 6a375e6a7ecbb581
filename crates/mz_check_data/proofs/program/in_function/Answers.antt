use Rattle.std.proofs.Common.{◌∙◌, ◌++◌, map, ap}
use Rattle.std.specs.List.{flat_map}
use Rattle.mz_core.specs.TreeViews.{decl}
use Rattle.mz_core.specs.Program.{function}
use Rattle.mz_check_meaning.specs.Texts.{in_decl}
use Rattle.mz_check_data.proofs.Layers.{function_added}
use Rattle.mz_check_data.proofs.program.in_function.Goals as goal

pub returns : goal.returns
returns c = function_added c.args.out.now.items c.in_decls.new.out.items c.in_declared.new.out.items c.in_tree.new.out.items (function c.args.f.now)
    (c.in_ok-in_decls.ensures ∙ ap (λ ds. c.args.out.now.items ++ flat_map in_decl (map decl ds)) c.as_slice.ensures.value)
    c.in_ok-in_declared.ensures
    c.in_ok-in_tree.ensures
