-- Declarations whose values may stand elsewhere.
use Rattle.std.specs.Prelude.{Option}
use Rattle.std.specs.Borrow.{Bor}
use Rattle.std.specs.Option.{option_map}
use Rattle.mz_tree.specs.declared.expr.Decl.{Decl}
use Rattle.mz_tree.specs.declared.expr.Expr.{Expr}
use Rattle.mz_tree.specs.declared.expr.Form.TheViews.{out-Decl}
use Rattle.mz_tree.specs.Tree as pure
use Rattle.mz_tree.specs.Tree.{Declaration}
use Rattle.mz_tree.specs.Views.{tree, written}

-- a declaration with this value in place of its own
abbrev pub valued : Decl → Option (Bor Expr) → Declaration
valued d value = pure.declaration (written (out-Decl d).ty) (out-Decl d).name (out-Decl d).span (pure.maybe (option_map (λ e. tree e.now) value))
