-- Calls of a model's functions over parts that have outlines.
use Rattle.std.proofs.Common.{◌≡◌, ℕ, Bool, List, [], ◌∷◌, map, Option, Some, None, refl, ap, ◌∙◌, slice_get}
use Rattle.mz_base.specs.declared.fault.Span.{Span}
use Rattle.mz_core.specs.Program.{Function}
use Rattle.mz_core.specs.Tree.{Tree, Decl, place_of}
use Rattle.mz_meaning.specs.Runs.{Run, then_do, loop}
use Rattle.mz_meaning.specs.Cells.{Cell, Blank, Env, undefined, both_sure, guarded}
use Rattle.mz_meaning.specs.Arrays.{Want, suits}
use Rattle.mz_meaning.specs.Contexts.{Context}
use Rattle.mz_meaning.specs.Forms.{World, Eval}
use Rattle.mz_meaning.specs.Lets as lets
use Rattle.mz_meaning.specs.Lets.{Names, all_have_sets}
use Rattle.mz_meaning.specs.Calls as calls
use Rattle.mz_meaning.specs.Solutions.{Each}
use Rattle.mz_meaning_laws.specs.Outlines.{outline, outlines, outline_sure, outline_names, outline_argument, blank_world, HasOutlines}
use Rattle.mz_meaning_laws.specs.Ties.{Tie, Ties, HasOutline, AllowsTree, AllowsDecl, AllowsFunction, AllowsFound, EvalHasOutline}
use Rattle.mz_meaning_laws.proofs.Joins.{then_outlined, give_outlined, at_same, loop_each_over_outlines, weigh_outlined}
use Rattle.mz_meaning_laws.proofs.Cells.{both_equal, both_sure_outline, guarded_outline}
use Rattle.mz_meaning_laws.proofs.Rows.{done_outlined}
use Rattle.mz_meaning_laws.proofs.Arrays.{suits_outline, argument_suits_outline, all_have_sets_outline, fitted_outlined, all_lengths_outline}
use Rattle.mz_meaning_laws.proofs.Forms.{handed_outlined, parts_outlined}
use Rattle.mz_meaning_laws.proofs.Lets.{want_outlined, index_wants_outlined, names_in_outlined, with_local_outline}

-- ---- arguments

arguments_outline : (ds : List Decl) (es : List Tree) (cs : List Cell) → calls.arguments ds es (outlines cs) ≡ map outline_argument (calls.arguments ds es cs)
arguments_outline [] es cs = refl
arguments_outline (p ∷ ds) [] cs = refl
arguments_outline (p ∷ ds) (e ∷ es) [] = refl
arguments_outline (p ∷ ds) (e ∷ es) (c ∷ cs) = ap (λ xs. (p, e, outline c) ∷ xs) (arguments_outline ds es cs)

-- whether an argument holds, as it is there and its index sets are
argument_holds_outline : (result parameter : Bool) (ixs : List Want) (x : Want) (c : Cell) → both_sure (all_have_sets ixs) (calls.argument_suits result parameter x (outline c)) ≡ outline_sure (both_sure (all_have_sets ixs) (calls.argument_suits result parameter x c))
argument_holds_outline result parameter ixs x c = both_equal both_sure (all_have_sets_outline ixs) (argument_suits_outline result parameter x c) ∙ both_sure_outline (all_have_sets ixs) (calls.argument_suits result parameter x c)

parameter_outlined : {t : Tie} {n : Bool} {w : World} {top : Env} {go go' : Eval} → EvalHasOutline t n w top go go' → {c d : Context} → Ties t c d → (var : Bool) (b : Names) (p : Decl × Tree × Cell) → AllowsDecl t p.0 → HasOutline t n outline_names (calls.parameter go c var w.top b p) (calls.parameter go' d var top (outline_names b) (outline_argument p))
parameter_outlined g h var b p z =
    then_outlined _ (index_wants_outlined g h p.0.ty.index z.ty.index (names_in_outlined b g.tops))
    (λ ixs. then_outlined _ (want_outlined g h p.0.ty.set z.ty.set (names_in_outlined b g.tops))
    (λ x. then_outlined _ (fitted_outlined (place_of p.1) ixs p.2)
    (λ y. give_outlined (ap (λ s. lets.with_local (outline_names b) p.0.slot (outline y, s)) (argument_holds_outline var p.0.ty.ty.var ixs x y) ∙ with_local_outline b p.0.slot (y, both_sure (all_have_sets ixs) (calls.argument_suits var p.0.ty.ty.var x y))))))

-- ---- the body and the result

result_outline : (b : Names) (ixs : List Want) (x : Want) (c : Cell) → both_sure (outline_names b).holds (both_sure (all_have_sets ixs) (suits x (outline c))) ≡ outline_sure (both_sure b.holds (both_sure (all_have_sets ixs) (suits x c)))
result_outline b ixs x c =
    ap (both_sure (outline_sure b.holds)) (both_equal both_sure (all_have_sets_outline ixs) (suits_outline x c) ∙ both_sure_outline (all_have_sets ixs) (suits x c)) ∙ both_sure_outline b.holds (both_sure (all_have_sets ixs) (suits x c))

called_outlined : {t : Tie} {n : Bool} {w : World} {top : Env} {go go' : Eval} → EvalHasOutline t n w top go go' → {c d : Context} → Ties t c d → (f : Function) → AllowsFunction t f → (at : Span) (b : Names) → HasOutline t n outline (calls.called w go c f at b) (calls.called (blank_world n w top) go' d f at (outline_names b))
called_outlined {n = n} {w = w} {top = top} g h f z at b =
    then_outlined _ (g.by h f.body z.body (names_in_outlined b g.tops))
    (λ y. then_outlined _ (index_wants_outlined g h f.result.index z.result.index (names_in_outlined b g.tops))
    (λ ixs. then_outlined _ (want_outlined g h f.result.set z.result.set (names_in_outlined b g.tops))
    (λ x. then_outlined _ (fitted_outlined (place_of f.body) ixs y)
    (λ r. then_outlined _ (handed_outlined w.mode g.notes r)
    (λ u. done_outlined w top at (guarded w.mode f.result.ty (both_sure b.holds (both_sure (all_have_sets ixs) (suits x r))) r)
    (ap (λ s. guarded (Blank n) f.result.ty s (outline r)) (result_outline b ixs x r) ∙ guarded_outline w.mode n f.result.ty (both_sure b.holds (both_sure (all_have_sets ixs) (suits x r))) r))))))

-- ---- the call

arguments_allow : (t : Tie) (ds : List Decl) (es : List Tree) (cs : List Cell) → Each (AllowsDecl t) ds → Each (λ p. AllowsDecl t p.0) (calls.arguments ds es cs)
arguments_allow t [] es cs h = tt
arguments_allow t (p ∷ ds) [] cs h = tt
arguments_allow t (p ∷ ds) (e ∷ es) [] h = tt
arguments_allow t (p ∷ ds) (e ∷ es) (c ∷ cs) h = (h.0, arguments_allow t ds es cs h.1)

abbrev with_parameters : World → Eval → Context → Function → Span → Env → List (Decl × Tree × Cell) → Run Cell
with_parameters w go c f at top xs = λ s. then_do (loop (calls.parameter go c f.result.ty.var top) lets.nothing_bound xs s) (calls.called w go c f at)

call_of_outlined : {t : Tie} {n : Bool} {w : World} {top : Env} {go go' : Eval} → EvalHasOutline t n w top go go' → {c d : Context} → Ties t c d → (f : Option Function) → AllowsFound t f → (es : List Tree) (cs : List Cell) (at : Span) → HasOutline t n outline (calls.call_of w go c f es cs at) (calls.call_of (blank_world n w top) go' d f es (outlines cs) at)
call_of_outlined {w = w} {top = top} g h None z es cs at = done_outlined w top at undefined refl
call_of_outlined {t = t} {n = n} {w = w} {top = top} {go = go} {go' = go'} g {c = c} {d = d} h (Some f) z es cs at =
    then_outlined (λ u. with_parameters (blank_world n w top) go' d f at top (calls.arguments f.params es (outlines cs))) (weigh_outlined w.mode g.notes (all_lengths_outline 0 cs))
    (λ u. at_same (λ xs. with_parameters (blank_world n w top) go' d f at top xs) (arguments_outline f.params es cs)
    (then_outlined _ (loop_each_over_outlines (λ p. AllowsDecl t p.0) outline_argument (calls.parameter go c f.result.ty.var w.top) (calls.parameter go' d f.result.ty.var top) (parameter_outlined g h f.result.ty.var) lets.nothing_bound (calls.arguments f.params es cs) (arguments_allow t f.params es cs z.params))
    (λ b. called_outlined g h f z at b)))

pub call_outlined : {t : Tie} {n : Bool} {w : World} {top : Env} {go go' : Eval} → EvalHasOutline t n w top go go' → {c d : Context} → Ties t c d → (f : ℕ) (es : List Tree) → Each (AllowsTree t) es → (at : Span) {env env' : Env} → HasOutlines env env' → HasOutline t n outline (calls.call w go c f es at env) (calls.call (blank_world n w top) go' d f es at env')
call_outlined {w = w} g h f es z at i = then_outlined _ (parts_outlined g h es z i) (λ cs. call_of_outlined g h (slice_get w.functions f) (g.functions f) es cs at)
