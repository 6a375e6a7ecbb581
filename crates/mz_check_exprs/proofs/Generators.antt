-- The generators of a call of a name with a comprehension: they are smaller than the form, and their names are in the table.
use Rattle.std.proofs.Common.{◌≡◌, ◌∙◌, ℕ, ◌<◌, List, Vec, Box, Global, rules, ap, sym, subst}
use Rattle.std.specs.Prelude.{All}
use denote.Param.Weighed.{most}
use Rattle.mz_tree.specs.declared.expr.Expr.{Expr}
use Rattle.mz_tree.specs.declared.expr.Gen.{Gen}
use Rattle.mz_tree.specs.declared.expr.Form.{Form}
use Rattle.mz_tree.specs.declared.expr.Form.TheFolds.{the_lemmas}
use Rattle.mz_tree.specs.declared.expr.Form.TheVariants as forms
use Rattle.mz_tree.specs.declared.expr.Form.TheViews.{out-Form}
use Rattle.mz_tree.specs.Tree.{Name}
use Rattle.mz_tree.proofs.expr.Gen.TheLaws as gen_laws
use Rattle.mz_tree.proofs.expr.Form.TheLaws as form_laws
use Rattle.mz_check_exprs.specs.Naming.{IsNamedGen, IsNamedForm}

pub gens_smaller : (f : Form) (n : Name) (gs : Vec Gen Global) (x : Box Expr Global) (slice : List Gen) → f ≡ forms.GenCall n gs x → slice ≡ gs.items → most gen_laws.the_size slice < form_laws.the_size f
gens_smaller f n gs x slice is same = search (rules, the_lemmas)

pub gens_in_table : (k : ℕ) (f : Form) (n : Name) (gs : Vec Gen Global) (x : Box Expr Global) (slice : List Gen) → f ≡ forms.GenCall n gs x → slice ≡ gs.items → IsNamedForm k (out-Form f) → All (IsNamedGen k) slice
gens_in_table k f n gs x slice is same named =
    let parts = subst (IsNamedForm k) (ap out-Form is ∙ forms.outs-GenCall n gs x) named in
    subst (All (IsNamedGen k)) (sym same) parts.1
