-- Declared sets, free locals and lets over parts that have outlines.
use Rattle.std.proofs.Common.{◌≡◌, ℕ, zero, suc, ℤ, pos, Bool, List, [], ◌∷◌, ◌++◌, replicate, Option, Some, None, refl, sym, ap, ◌∙◌, subst}
use Rattle.mz_base.specs.declared.fault.Span.{Span}
use Rattle.mz_base.specs.declared.kind.Kind.TheVariants as kind
use Rattle.mz_value.specs.Ranges.{Range}
use Rattle.mz_core.specs.Types.{PlainType}
use Rattle.mz_core.specs.Tree.{Tree, Decl, Item, declares, constrains, place_of}
use Rattle.mz_operations.specs.Arrays.{place_count, is_contiguous}
use Rattle.mz_operations.specs.Bounds as bounds
use Rattle.mz_meaning.specs.Runs.{State, Answer, Out}
use Rattle.mz_meaning.specs.Cells.{Cell, Var, Mode, Blank, Env, undefined, is_par, is_true, value_of, set_in, Sure, sure, both_sure, guarded}
use Rattle.mz_meaning.specs.Domains.{Domain, domain_bound}
use Rattle.mz_meaning.specs.Arrays.{Want, Anything, Missing, Within, want_of, suits, declared_ranges, declared_count}
use Rattle.mz_meaning.specs.Contexts.{Context, Untested, Positive, Other}
use Rattle.mz_meaning.specs.Forms.{World, Eval}
use Rattle.mz_meaning.specs.Lets as lets
use Rattle.mz_meaning.specs.Lets.{Names, all_have_sets}
use Rattle.mz_meaning.specs.Solutions.{Each}
use Rattle.mz_meaning_laws.specs.FreeLocals.{free_in}
use Rattle.mz_meaning_laws.specs.Outlines.{outline, outlines, outline_sure, outline_kept, outline_names, blank_world, HasOutlines}
use Rattle.mz_meaning_laws.specs.Ties.{Tie, Equal, Untesting, Strict, Without, Ties, Takes, HasOutline, HasNotes, Allows, AllowsIf, AllowsValue, AllowsLocal, AllowsItem, EvalHasOutline}
use Rattle.mz_meaning_laws.proofs.Joins.{then_outlined, give_outlined, stop_outlined, if_outlined, at_same, same, spend_outlined, spend_same, loop_each_outlined, noted_outline, weigh_outlined}
use Rattle.mz_meaning_laws.proofs.Cells.{both_equal, set_outline, push_outline, truth_outline, both_sure_outline, guarded_outline, bind_all_outlined}
use Rattle.mz_meaning_laws.proofs.Rows.{done_outlined}
use Rattle.mz_meaning_laws.proofs.Arrays.{suits_outline, all_have_sets_outline, count_outline, fitted_outlined}

-- ---- declared sets

pub want_outlined : {t : Tie} {n : Bool} {w : World} {top : Env} {go go' : Eval} → EvalHasOutline t n w top go go' → {c d : Context} → Ties t c d → (e : Option Tree) → AllowsIf t e → {env env' : Env} → HasOutlines env env' → HasOutline t n (same {A = Want}) (lets.want go c e env) (lets.want go' d e env')
want_outlined g h None z i = give_outlined refl
want_outlined g h (Some e) z i = then_outlined _ (g.by h e z i) (λ x. give_outlined (ap want_of (set_outline x)))

pub contiguous_outlined : {t : Tie} {n : Bool} (at : Span) (s : Option (List Range)) → HasOutline t n (same {A = Want}) (lets.contiguous at s) (lets.contiguous at s)
contiguous_outlined at None = give_outlined refl
contiguous_outlined at (Some s) = if_outlined (is_contiguous s) (give_outlined refl) (stop_outlined kind.IndexMismatch at (pos 0))

index_want_outlined : {t : Tie} {n : Bool} {w : World} {top : Env} {go go' : Eval} → EvalHasOutline t n w top go go' → {c d : Context} → Ties t c d → (e : Option Tree) → AllowsIf t e → {env env' : Env} → HasOutlines env env' → HasOutline t n (same {A = Want}) (lets.index_want go c e env) (lets.index_want go' d e env')
index_want_outlined g h None z i = give_outlined refl
index_want_outlined g h (Some e) z i = then_outlined _ (g.by h e z i) (λ x. at_same (λ s. lets.contiguous (place_of e) s) (set_outline x) (contiguous_outlined (place_of e) (set_in x)))

pub index_wants_outlined : {t : Tie} {n : Bool} {w : World} {top : Env} {go go' : Eval} → EvalHasOutline t n w top go go' → {c d : Context} → Ties t c d → (es : List (Option Tree)) → Each (AllowsIf t) es → {env env' : Env} → HasOutlines env env' → HasOutline t n (same {A = List Want}) (lets.index_wants go c es env) (lets.index_wants go' d es env')
index_wants_outlined {t = t} {go = go} {go' = go'} g {c = c} {d = d} h es z {env = env} {env' = env'} i = loop_each_outlined (AllowsIf t) (lets.one_index go c env) (lets.one_index go' d env') (λ acc e y. then_outlined _ (index_want_outlined g h e y i) (λ x. give_outlined refl)) [] es z

kept_outlined : {t : Tie} {n : Bool} (at : Span) (ixs : List Want) (x : Want) (c : Cell) → HasOutline t n outline_kept (lets.kept at ixs x c) (lets.kept at ixs x (outline c))
kept_outlined at ixs x c = then_outlined _ (fitted_outlined at ixs c) (λ f. give_outlined (ap (λ s. (outline f, s)) (both_equal both_sure (all_have_sets_outline ixs) (suits_outline x f) ∙ both_sure_outline (all_have_sets ixs) (suits x f))))

-- ---- names

pub names_in_outlined : (b : Names) {env env' : Env} → HasOutlines env env' → HasOutlines (lets.names_in b env) (lets.names_in (outline_names b) env')
names_in_outlined b i = bind_all_outlined b.slots b.cells i

pub with_local_outline : (b : Names) (slot : ℕ) (x : Cell × Sure) → lets.with_local (outline_names b) slot (outline_kept x) ≡ outline_names (lets.with_local b slot x)
with_local_outline b slot x = both_equal (λ cs s. record { slots = b.slots ++ slot ∷ []; cells = cs; holds = s }) (push_outline b.cells x.0) (both_sure_outline b.holds x.1)

-- ---- free locals: where a choice may be taken

abbrev MayChoose : Tie → Type 0
MayChoose Equal = Unit {0}
MayChoose Untesting = Unit {0}
MayChoose Strict = ⊥
MayChoose Without = ⊥

takes_any : {A : Type 0} (t : Tie) → MayChoose t → (s : State) (a : Answer A) → Takes t s a
takes_any Equal h s a = tt
takes_any Untesting h s a = tt
takes_any Strict h s a = absurd h
takes_any Without h s a = absurd h

abbrev there_for_sure : Cell → Cell × Sure
there_for_sure c = (c, sure)

choose_outlined : {t : Tie} {n : Bool} → MayChoose t → (mode : Mode) → HasNotes n mode → (ty : PlainType) (d : Option Domain) → HasOutline t n outline_kept (lets.choose mode ty d) (lets.choose (Blank n) ty d)
choose_outlined z mode h ty None = give_outlined refl
choose_outlined {t = t} {n = n} z mode h ty (Some d) = record { by = λ s i. (ap (λ q. Out (there_for_sure (Var (bounds.one (domain_bound d)) None)) q) (noted_outline n mode h (d ∷ []) 0 s), takes_any t z s _) }

choose_places_outlined : {t : Tie} {n : Bool} → MayChoose t → (mode : Mode) → HasNotes n mode → (ty : PlainType) (ix : List Range) (k : ℕ) (d : Option Domain) → HasOutline t n outline_kept (lets.choose_places mode ty ix k d) (lets.choose_places (Blank n) ty ix k d)
choose_places_outlined z mode h ty ix zero d = give_outlined refl
choose_places_outlined z mode h ty ix (suc k) None = give_outlined refl
choose_places_outlined {t = t} {n = n} z mode h ty ix (suc k) (Some d) = record { by = λ s i. (ap (λ q. Out (there_for_sure (Var (bounds.many ix (replicate (suc k) (domain_bound d))) None)) q) (noted_outline n mode h (replicate (suc k) d) 0 s), takes_any t z s _) }

free_array_outlined : {t : Tie} {n : Bool} → MayChoose t → (mode : Mode) → HasNotes n mode → (ty : PlainType) (ix : List Range) (x : Want) (d : Option Domain) → HasOutline t n outline_kept (lets.free_array mode ty ix x d) (lets.free_array (Blank n) ty ix x d)
free_array_outlined z mode h ty ix Anything d = choose_places_outlined z mode h ty ix (place_count ix) d
free_array_outlined z mode h ty ix Missing d = give_outlined refl
free_array_outlined z mode h ty ix (Within u) d = choose_places_outlined z mode h ty ix (place_count ix) d

chosen_outlined : {t : Tie} {n : Bool} → MayChoose t → (mode : Mode) → HasNotes n mode → (k : ℤ) (ty : PlainType) (ixs : List Want) (x : Want) → HasOutline t n outline_kept (lets.chosen mode k ty ixs x) (lets.chosen (Blank n) k ty ixs x)
chosen_outlined z mode h k ty [] x = choose_outlined z mode h ty (lets.unless_empty (lets.local_domain k ty x))
chosen_outlined z mode h k ty (r ∷ rs) x = if_outlined (lets.all_declared (r ∷ rs)) (free_array_outlined z mode h ty (declared_ranges (r ∷ rs) []) x (lets.unless_empty (lets.local_domain k ty x))) (give_outlined refl)

-- in a wrong place the two may part: where the blank run tests no context, and where it allows no free local
free_local_outlined : {t : Tie} {n : Bool} (w : World) (top : Env) → HasNotes n w.mode → {c d : Context} → Ties t c d → (at place : Span) → Allows t (place ∷ []) → (ty : PlainType) (ixs : List Want) (x : Want) → HasOutline t n outline_kept (lets.free_local w c at ty ixs x) (lets.free_local (blank_world n w top) d at ty ixs x)
free_local_outlined {t = Equal} {n = n} w top z {c = c} h at place y ty ixs x = subst (λ d. HasOutline Equal n outline_kept (lets.free_local w c at ty ixs x) (lets.free_local (blank_world n w top) d at ty ixs x)) (sym h.is) (go c)
  where
    go : (c : Context) → HasOutline Equal n outline_kept (lets.free_local w c at ty ixs x) (lets.free_local (blank_world n w top) c at ty ixs x)
    go Untested = chosen_outlined tt w.mode z w.int_range ty ixs x
    go Positive = chosen_outlined tt w.mode z w.int_range ty ixs x
    go Other = stop_outlined kind.FreeInContext at (pos 0)
free_local_outlined {t = Untesting} {n = n} w top z {c = c} h at place y ty ixs x = subst (λ d. HasOutline Untesting n outline_kept (lets.free_local w c at ty ixs x) (lets.free_local (blank_world n w top) d at ty ixs x)) (sym h.is) (go c)
  where
    go : (c : Context) → HasOutline Untesting n outline_kept (lets.free_local w c at ty ixs x) (lets.free_local (blank_world n w top) Untested at ty ixs x)
    go Untested = chosen_outlined tt w.mode z w.int_range ty ixs x
    go Positive = chosen_outlined tt w.mode z w.int_range ty ixs x
    go Other = record { by = λ s i. absurd (cc) }
free_local_outlined {t = Strict} {n = n} w top z {c = c} h at place y ty ixs x = subst (λ d. HasOutline Strict n outline_kept (lets.free_local w c at ty ixs x) (lets.free_local (blank_world n w top) d at ty ixs x)) (sym h.is) (record { by = λ s i. absurd (cc) })
free_local_outlined {t = Without} w top z h at place y ty ixs x = absurd (cc)

-- ---- declarations

given_value_outlined : {t : Tie} {n : Bool} {w : World} {top : Env} {go go' : Eval} → EvalHasOutline t n w top go go' → {c d : Context} → Ties t c d → (p : Decl) (ixs : List Want) (x : Want) {env env' : Env} → HasOutlines env env' → (e : Option Tree) → AllowsValue t p.span e → HasOutline t n outline_kept (lets.given_value w go c p ixs x env e) (lets.given_value (blank_world n w top) go' d p ixs x env' e)
given_value_outlined {w = w} {top = top} g h p ixs x i None z = then_outlined _ (spend_outlined w.budget p.span (declared_count ixs undefined)) (λ u. free_local_outlined w top g.notes h p.ty.span p.span z p.ty.ty ixs x)
given_value_outlined {w = w} g h p ixs x i (Some e) z =
    then_outlined _ (g.by h e z i) (λ y. then_outlined (λ u. lets.kept (place_of e) ixs x (outline y)) (spend_same w.budget p.span (count_outline ixs y)) (λ u. kept_outlined (place_of e) ixs x y))

declared_outlined : {t : Tie} {n : Bool} {w : World} {top : Env} {go go' : Eval} → EvalHasOutline t n w top go go' → {c d : Context} → Ties t c d → (p : Decl) → AllowsLocal t p → {env env' : Env} → HasOutlines env env' → HasOutline t n outline_kept (lets.declared w go c p env) (lets.declared (blank_world n w top) go' d p env')
declared_outlined {w = w} g h p z i =
    then_outlined _ (weigh_outlined w.mode g.notes refl) (λ v. then_outlined _ (index_wants_outlined g h p.ty.index z.ty.index i) (λ ixs. then_outlined _ (want_outlined g h p.ty.set z.ty.set i) (λ x. given_value_outlined g h p ixs x i p.value z.value)))

-- ---- lets

constrained_outline : (b : Names) (c : Cell) → lets.constrained (outline_names b) (outline c) ≡ outline_names (lets.constrained b c)
constrained_outline b c = ap (λ s. record { slots = b.slots; cells = outlines b.cells; holds = s }) (ap (both_sure (outline_sure b.holds)) (truth_outline c) ∙ both_sure_outline b.holds (record { par = is_par c; is = is_true (value_of c) }))

item_outlined : {t : Tie} {n : Bool} {w : World} {top : Env} {go go' : Eval} → EvalHasOutline t n w top go go' → {c d : Context} → Ties t c d → {env env' : Env} → HasOutlines env env' → (b : Names) (x : Item) → AllowsItem t x → HasOutline t n outline_names (lets.let_item w go c env b x) (lets.let_item (blank_world n w top) go' d env' (outline_names b) x)
item_outlined g h i b (constrains e) z = then_outlined _ (g.by h e z (names_in_outlined b i)) (λ x. give_outlined (constrained_outline b x))
item_outlined g h i b (declares p) z = then_outlined _ (declared_outlined g h p z (names_in_outlined b i)) (λ x. give_outlined (with_local_outline b p.slot x))

pub let_outlined : {t : Tie} {n : Bool} {w : World} {top : Env} {go go' : Eval} → EvalHasOutline t n w top go go' → {c d : Context} → Ties t c d → (is : List Item) (e : Tree) → Each (AllowsItem t) is → Allows t (free_in e) → (at : Span) (ty : PlainType) {env env' : Env} → HasOutlines env env' → HasOutline t n outline (lets.let_of w go c is e at ty env) (lets.let_of (blank_world n w top) go' d is e at ty env')
let_outlined {t = t} {n = n} {w = w} {top = top} {go = go} {go' = go'} g {c = c} {d = d} h is e y z at ty {env = env} {env' = env'} i =
    then_outlined _ (loop_each_outlined (AllowsItem t) (lets.let_item w go c env) (lets.let_item (blank_world n w top) go' d env') (item_outlined g h i) lets.nothing_bound is y)
    (λ b. then_outlined _ (g.by h e z (names_in_outlined b i)) (λ x. done_outlined w top at (guarded w.mode ty b.holds x) (guarded_outline w.mode n ty b.holds x)))
