-- Names with their cells.
use Rattle.std.proofs.Common.{◌≡◌, ◌∙◌, ℕ, List, [], ◌∷◌, ◌++◌, map, refl, sym, ap}
use Rattle.mz_meaning.specs.Cells.{Cell, Sure, both_sure}
use Rattle.mz_meaning.specs.Lets as lets
use Rattle.mz_meaning.specs.Runs.{Out}
use Rattle.mz_symbol.specs.Runs.{Run}
use Rattle.mz_symbol.specs.Readings.{Reading, Reads, state_of}
use Rattle.mz_symbol.specs.Makes.{GoesOnBy}
use Rattle.mz_symbol_rows.proofs.RowLaws.{out_both}
use Rattle.mz_eval_cells.specs.declared.types.Known.{Known}
use Rattle.mz_eval_cells.specs.Views.{seen}
use Rattle.mz_eval_guards.specs.declared.types.Guard.{Guard}
use Rattle.mz_eval_guards.specs.Guards.{IsGuard, guard_seen}
use Rattle.mz_eval_names.specs.declared.types.Names.{Names}
use Rattle.mz_eval_names.specs.Names.{names_seen}
use Rattle.mz_eval_names.specs.Steps.{met, with_name}

map_push : {A B : Type 0} (f : A → B) (xs : List A) (x : A) → map f (xs ++ x ∷ []) ≡ map f xs ++ f x ∷ []
map_push f [] x = refl
map_push f (y ∷ ys) x = ap (λ zs. f y ∷ zs) (map_push f ys x)

abbrev bound_names : List ℕ → List Cell → Sure → lets.Names
bound_names ss cs h = record { slots = ss; cells = cs; holds = h }

pub one_more : (r : Reading) (ss : List ℕ) (ks : List Known) (k : Known) (h : Guard) → bound_names ss (map (seen r) (ks ++ k ∷ [])) (guard_seen r h) ≡ bound_names ss (map (seen r) ks ++ seen r k ∷ []) (guard_seen r h)
one_more r ss ks k h = ap (λ cs. bound_names ss cs (guard_seen r h)) (map_push (seen r) ks k)

-- a guard for all names, which says what two others say
pub local_means : (old new : Run) (b n : Names) (slot : ℕ) (k : Known) (g h : Guard) (r : Reading) → IsGuard old new (λ r. both_sure (guard_seen r b.holds) (guard_seen r g)) h → names_seen r n ≡ with_name r b slot k h → Reads r new → Out (lets.with_local (names_seen r b) slot (seen r k, guard_seen r g)) (state_of r old) ≡ Out (names_seen r n) (state_of r new)
local_means old new b n slot k g h r i e q = out_both (ap (bound_names (b.slots.items ++ slot ∷ []) (map (seen r) b.cells.items ++ seen r k ∷ [])) (sym (i.is r q)) ∙ sym e) (i.same r q)

pub constraint_means : (old mid new : Run) (b n : Names) (k : Known) (g h : Guard) (r : Reading) → IsGuard old mid (λ r. met (seen r k)) g → GoesOnBy 0 mid new → IsGuard mid new (λ r. both_sure (guard_seen r b.holds) (guard_seen r g)) h → names_seen r n ≡ bound_names b.slots.items (map (seen r) b.cells.items) (guard_seen r h) → Reads r new → Out (lets.constrained (names_seen r b) (seen r k)) (state_of r old) ≡ Out (names_seen r n) (state_of r new)
constraint_means old mid new b n k g h r i f j e q =
    out_both
    (ap (bound_names b.slots.items (map (seen r) b.cells.items)) (ap (both_sure (guard_seen r b.holds)) (sym (i.is r (f.back r q))) ∙ sym (j.is r q)) ∙ sym e)
    (i.same r (f.back r q) ∙ j.same r q)
