use Rattle.std.proofs.Common.{◌≡◌, map, ap, sym, refl, ◌∙◌}
use Rattle.mz_value.specs.declared.value.Value.{the_lemmas}
use Rattle.mz_value.specs.Contents.{content, contents, array}
use Rattle.mz_operations.specs.Views.{as_row}
use Rattle.mz_builtin_arguments.proofs.Views.{as_row_is}
use Rattle.mz_builtin_arguments.proofs.view.as_row.Goals as goal

pub returns-in-Array : goal.returns-in-Array
returns-in-Array c =
    let opened : content c.args.v.now ≡ array c.in-Array.a.index.items (contents (map content c.in-Array.a.items.items)) = rw c.in-Array.is (simp the_lemmas refl) in
    c.row_of.ensures ∙ sym (ap as_row opened ∙ as_row_is c.in-Array.a.index.items (map content c.in-Array.a.items.items))
