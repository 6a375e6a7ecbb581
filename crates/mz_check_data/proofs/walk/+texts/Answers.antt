use Rattle.std.proofs.Common.{◌≡◌, ◌++◌, ℕ, List, sym, subst, OnOk}
use Rattle.mz_check_data.proofs.Layers.{texts_of_tree}
use Rattle.mz_check_data.proofs.walk.+texts.Goals as goal

pub in_tree-returns : goal.in_tree-returns
in_tree-returns t c = subst (λ (ns : List ℕ). OnOk c.in_form.result (c.in_form.new.out.items ≡ c.args.out.now.items ++ ns)) (sym (texts_of_tree c.args.e.now)) c.in_form.ensures
