-- Solve items among others: what one more item adds to their places.
use Rattle.std.proofs.Common.{◌≡◌, List, [], ◌++◌, refl, ap, sym, ◌∙◌, append-nil}
use Rattle.mz_base.specs.declared.fault.Span.{Span}
use Rattle.mz_tree.specs.Items.{item}
use Rattle.mz_tree.specs.declared.item.Goal.{Goal}
use Rattle.mz_tree.specs.declared.item.Item.{Item}
use Rattle.mz_tree.specs.declared.item.Item.TheVariants as items
use Rattle.mz_scope.specs.Tests.{solve_in}

pub no_solve : (i : Item) → ((s : Span) (g : Goal) → i ≡ items.Solve s g → ⊥) → solve_in (item i) ≡ []
no_solve (items.Solve s g) n = absurd (n s g refl)
no_solve i n = refl

pub passed : (done now more : List Span) → now ≡ done → more ≡ [] → now ≡ done ++ more
passed done now more p q = p ∙ sym (append-nil done) ∙ ap (λ z. done ++ z) (sym q)
