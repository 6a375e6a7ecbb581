-- A declaration gives the name of its form.
use Rattle.std.proofs.Common.{◌≡◌, ◌∙◌, ℕ, pos, Bool, true, false, List, [], ◌∷◌, Option, Some, None, refl, sym, ap}
use Rattle.mz_base.specs.declared.fault.Span.{Span}
use Rattle.mz_core.specs.Types.{PlainType}
use Rattle.mz_core.specs.Tree.{Tree, Decl, place_of}
use Rattle.mz_meaning.specs.Arrays.{Want, suits, declared_count, fitted}
use Rattle.mz_meaning.specs.Cells.{Cell, Env, Mode, undefined}
use Rattle.mz_meaning.specs.Contexts.{Context}
use Rattle.mz_meaning.specs.Forms.{World, Eval}
use Rattle.mz_meaning.specs.Runs.{State, Answer, Out, Stopped, then_do, spend, loop, weigh}
use Rattle.mz_meaning.specs.Walk.{Assignment, Declared, defined_set, set_want, one_index, surely, valued, par_name, declare_value, declare_in}
use Rattle.mz_model_state.specs.Forms.{NameForm, declared_as, par_form, valued_form, value_form, form_in, DeclaredByForm}

-- what goes on from both answers alike, and gives the name of the form at the end
goes_on : {A B C : Type 0} (x : Answer A) (f : A → State → Answer C) (g : A → State → Answer B) (h : B → State → Answer C) → ((y : A) (s : State) → f y s ≡ then_do (g y s) h) → then_do x f ≡ then_do (then_do x g) h
goes_on (Out y s) f g h same = same y s
goes_on (Stopped f) g h i same = refl

abbrev named : Mode → Assignment → Decl → NameForm → State → Answer Declared
named m a d x s = Out (declared_as m a d.slot x) s

par_named : (m : Mode) (a : Assignment) (d : Decl) (at : Span) (c : Cell) (b : Bool) (s : State) → par_name at d c b s ≡ then_do (par_form at c b s) (named m a d)
par_named m a d at c true s = refl
par_named m a d at c false s = refl

value_named : (m : Mode) (a : Assignment) (d : Decl) (at : Span) (ixs : List Want) (x : Want) (b : Bool) (c : Cell) (s : State) → valued m a at d ixs x b c s ≡ then_do (valued_form at d.ty.ty ixs x b c s) (named m a d)
value_named m a d at ixs x true c s = refl
value_named m a d at ixs x false c s = par_named m a d at c (surely (suits x c)) s

declared_named : (w : World) (go : Eval) (ctx : Context) (a : Assignment) (d : Decl) (ixs : List Want) (x : Want) (env : Env) (e : Option Tree) (s : State) → declare_value w go ctx a d ixs x env e s ≡ then_do (value_form w go ctx d ixs x env e s) (named w.mode a d)
declared_named w go ctx a d ixs x env None s = goes_on (spend w.budget d.span (declared_count ixs undefined) s) _ _ (named w.mode a d) (λ y s. refl)
declared_named w go ctx a d ixs x env (Some e) s =
    goes_on (go ctx e env s) _ _ (named w.mode a d) (λ c s.
    goes_on (spend w.budget d.span (declared_count ixs c) s) _ _ (named w.mode a d) (λ y s.
    goes_on (fitted (place_of e) ixs c s) _ _ (named w.mode a d) (λ f s.
    value_named w.mode a d (place_of e) ixs x d.ty.ty.var f s)))

pub declared_by_form : DeclaredByForm
declared_by_form w go ctx a d env s =
    goes_on (weigh w.mode 1 s) _ _ (named w.mode a d) (λ y s.
    goes_on (loop (one_index go ctx env) [] d.ty.index s) _ _ (named w.mode a d) (λ ixs s.
    goes_on (set_want go ctx defined_set d.ty.set env s) _ _ (named w.mode a d) (λ x s.
    declared_named w go ctx a d ixs x env d.value s)))
