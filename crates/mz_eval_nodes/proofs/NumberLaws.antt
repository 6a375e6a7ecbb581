-- Rows of operators over numbers.
use Rattle.std.proofs.Common.{◌≡◌, ◌∙◌, ◌∷◌, ◌++◌, [], List, Option, Some, None, MatchOption, Bor, Err, ℤ, refl, sym, ap, subst}
use Rattle.mz_base.specs.declared.fault.Span.{Span}
use Rattle.mz_base.specs.declared.stop.Stop.{Stop}
use Rattle.mz_base.specs.declared.stop.Stop.TheVariants.{Refused, Memory}
use Rattle.mz_value.specs.Contents as values
use Rattle.mz_core.specs.declared.tree.Core.{Core}
use Rattle.mz_core.specs.declared.types.Coercion.{Coercion}
use Rattle.mz_core.specs.declared.types.Coercion.TheVariants.{ToVar}
use Rattle.mz_core.specs.declared.types.TypeInst.{TypeInst}
use Rattle.mz_core.specs.Coercions.{PathLink}
use Rattle.mz_core.specs.Paths.{path_links}
use Rattle.mz_core.specs.Types.{PlainType}
use Rattle.mz_operations.specs.Bounds.{bound_of, bounds_of}
use Rattle.mz_meaning.specs.Runs.{Answer, Out, Run, State, Stopped, give, spend, then_do}
use Rattle.mz_meaning.specs.Cells.{Blank, Cell, Given, Mode, held, par_value, value_of}
use Rattle.mz_meaning.specs.Forms.{World, coerced_by}
use Rattle.mz_symbol.specs.Readings.{Reading}
use Rattle.mz_symbol.specs.Makes.{MeetsAt}
use Rattle.mz_eval_cells.specs.declared.types.Known.{Known}
use Rattle.mz_eval_cells.specs.Views.{seen}
use Rattle.mz_eval_chains.specs.Links.{links_round}
use Rattle.mz_eval_row_symbols.specs.declared.types.Operand.TheVariants as operand
use Rattle.mz_eval_row_symbols.specs.Numbers.{IsNumber}
use Rattle.mz_eval_nodes.specs.Numbers.{IsOpened, Opens, open_integer}

once : (a : Answer (Unit {0})) (x : Cell) → then_do (then_do a (λ _. give x)) give ≡ then_do a (λ _. give x)
once (Out u s) x = refl
once (Stopped f) x = refl

pub opened_by : (t : PlainType) (k : Known) (n : ℤ) → ((r : Reading) → seen r k ≡ par_value (values.int n)) → IsOpened ((ToVar, t) ∷ []) k n
unfolding bounds_of bound_of
opened_by t k n h w at r s = ap (λ c. coerced_by w at ((ToVar, t) ∷ []) c s) (h r) ∙ once (spend w.budget at 0 s) (open_integer w.mode n)

pub open_number : (n : ℤ) → IsNumber (λ r. open_integer r.mode n) (record { operand = operand.Integer n; ends = (n, n) })
open_number n = record {
  var = λ r. refl;
  bounds = λ r. refl;
  value = λ r. held_again r.mode;
}
  where
    held_again : (m : Mode) → held m (value_of (open_integer m n)) ≡ held m (Some (values.int n))
    held_again (Blank b) = refl
    held_again (Given f) = refl

-- ---- operands that become var

pub opened_told : (after : Option (Bor Core)) (ls : List (Coercion × TypeInst)) (k : Known) (o : Option ℤ) → after ≡ None → Opens ls → MatchOption o (Unit {0}) (λ n. (r : Reading) → seen r k ≡ par_value (values.int n)) → MatchOption o (Unit {0}) (IsOpened (links_round after ++ path_links ls) k)
opened_told after ls k None e h m = m
opened_told after ls k (Some n) e h m = subst (λ a. IsOpened (links_round a ++ path_links ls) k n) (sym e) (h k n m)

pub opened_goes : (w : World) (at : Span) (ls : List PathLink) (c x : Cell) (go : Cell → Run Cell) (s u : State) → coerced_by w at ls c s ≡ then_do (spend w.budget at 0 s) (λ _. give x) → spend w.budget at 0 s ≡ Out tt u → then_do (coerced_by w at ls c s) go ≡ go x u
opened_goes w at ls c x go s u h e = ap (λ a. then_do a go) h ∙ ap (λ a. then_do (then_do a (λ _. give x)) go) e

pub opened_stops : {A B : Type 0} (w : World) (at : Span) (ls : List PathLink) (c x : Cell) (go : Cell → Run Cell) (s v : State) (see : A → Cell) (tell : B → Unit {0}) (e : Stop) → coerced_by w at ls c s ≡ then_do (spend w.budget at 0 s) (λ _. give x) → MeetsAt tell (Err e) v (spend w.budget at 0 s) → MeetsAt see (Err e) v (then_do (coerced_by w at ls c s) go)
opened_stops w at ls c x go s v see tell (Refused f) h m = ap (λ a. then_do a go) h ∙ ap (λ a. then_do (then_do a (λ _. give x)) go) m
opened_stops w at ls c x go s v see tell Memory h m = tt
