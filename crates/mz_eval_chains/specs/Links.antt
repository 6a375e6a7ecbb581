-- The coercions round an expression.
use Rattle.std.specs.Prelude.{List, [], Option, Some, None}
use Rattle.std.specs.Borrow.{Bor}
use Rattle.mz_core.specs.declared.tree.Core.{Core}
use Rattle.mz_core.specs.declared.tree.CoreForm.TheViews.{out-CoreForm}
use Rattle.mz_core.specs.Coercions.{PathLink}
use Rattle.mz_core.specs.Tree.{root_coercions}
use Rattle.mz_core.specs.TreeViews.{form_layer, tree}
use Rattle.mz_core.specs.Types.{plain_type}
use Rattle.mz_meaning.specs.Cells.{Cell, typed}
use Rattle.mz_meaning.specs.Evaluation.{is_name}
use Rattle.mz_meaning.specs.Forms.{World, coerced_by}
use Rattle.mz_meaning.specs.Runs.{Run}

-- none where there is no expression
abbrev pub links_round : Option (Bor Core) → List PathLink
links_round None = []
links_round (Some e) = root_coercions (tree e.now)

-- the cell of an expression whose node below its coercions has this cell so far
abbrev pub finished_by : World → Core → Core → Cell → Run Cell
finished_by w e b c =
    coerced_by w b.span (root_coercions (tree e)) (typed w.mode (is_name (form_layer (out-CoreForm b.form))) (plain_type b.ty) c)
