-- Calls of functions whose parameters have no declared sets, argument by argument.
use Rattle.std.proofs.Common.{◌≡◌, ◌∙◌, ℕ, suc, ◌+◌, ◌-◌, Bool, Option, List, [], ◌∷◌, ◌++◌, map, take, drop, length, get_or, append_assoc, append-nil, refl, sym, ap, arith}
use Rattle.mz_base.specs.declared.fault.Span.{Span}
use Rattle.mz_core.specs.declared.tree.Core.{Core}
use Rattle.mz_core.specs.declared.tree.CoreDecl.{CoreDecl}
use Rattle.mz_core.specs.Program.{Function}
use Rattle.mz_core.specs.Tree.{Tree, Decl, place_of}
use Rattle.mz_core.specs.TreeViews.{tree, decl}
use Rattle.mz_meaning.specs.Runs.{State, Answer, Out, Stopped, Run, ◌>>=◌, ◌>>◌, then_do, give, loop, noted, weigh}
use Rattle.mz_meaning.specs.Cells.{Cell, Env, Sure, both_sure, bind, bind_all, length_of, or_zero}
use Rattle.mz_meaning.specs.Arrays.{Anything, fitted}
use Rattle.mz_meaning.specs.Contexts.{Context}
use Rattle.mz_meaning.specs.Forms.{World, Eval, part, parts}
use Rattle.mz_meaning.specs.Lets.{Names, nothing_bound, names_in, with_local, index_wants, want, all_have_sets}
use Rattle.mz_meaning.specs.Calls.{all_lengths, argument_suits, arguments, parameter, called, call_of, call}
use Rattle.mz_eval_chains.proofs.Runs.{then_again, then_same}
use Rattle.mz_eval.specs.Calls.{called_in}
use Rattle.mz_eval.specs.PlainCalls.{IsPlain, ArePlain, IsPlainAt, all_suit, with_arguments, called_on, called_on_all, called_on_none}

-- ---- parts, the first one apart

abbrev loop_parts : Eval → Context → Env → List Cell → List Tree → Run (List Cell)
loop_parts go ctx env cs es = loop (part go ctx env) cs es

more_parts : (go : Eval) (ctx : Context) (env : Env) (acc : List Cell) (es : List Tree) (s : State) → loop_parts go ctx env acc es s ≡ then_do (loop_parts go ctx env [] es s) (λ cs. give (acc ++ cs))
more_parts go ctx env acc [] s = ap (λ cs. Out cs s) (sym (append-nil acc))
more_parts go ctx env acc (e ∷ es) s = by (λ cs. more_parts go ctx env cs es) (go ctx e env s)
  where
    by : ((cs : List Cell) (t : State) → loop_parts go ctx env cs es t ≡ then_do (loop_parts go ctx env [] es t) (λ xs. give (cs ++ xs))) → (a : Answer Cell) → then_do (then_do a (λ c. give (acc ++ c ∷ []))) (λ next. loop_parts go ctx env next es) ≡ then_do (then_do (then_do a (λ c. give (c ∷ []))) (λ next. loop_parts go ctx env next es)) (λ cs. give (acc ++ cs))
    by more (Out c t) =
        more (acc ++ c ∷ []) t
        ∙ then_same (loop_parts go ctx env [] es t) (λ cs. give ((acc ++ c ∷ []) ++ cs)) (λ cs. give (acc ++ c ∷ cs)) (λ cs u. ap (λ xs. Out xs u) (append_assoc acc (c ∷ []) cs))
        ∙ sym (then_again (loop_parts go ctx env [] es t) (λ cs. give (c ∷ cs)) (λ cs. give (acc ++ cs)))
        ∙ sym (ap (λ a. then_do a (λ cs. give (acc ++ cs))) (more (c ∷ []) t))
    by more (Stopped f) = refl

parts_then : {B : Type 0} (go : Eval) (ctx : Context) (env : Env) (e : Tree) (es : List Tree) (k : List Cell → Run B) (s : State) → then_do (parts go ctx (e ∷ es) env s) k ≡ then_do (go ctx e env s) (λ c t. then_do (parts go ctx es env t) (λ cs. k (c ∷ cs)))
parts_then go ctx env e es k s = by (go ctx e env s)
  where
    by : (a : Answer Cell) → then_do (then_do (then_do a (λ c. give (c ∷ []))) (λ next. loop_parts go ctx env next es)) k ≡ then_do a (λ c t. then_do (parts go ctx es env t) (λ cs. k (c ∷ cs)))
    by (Out c t) =
        ap (λ a. then_do a k) (more_parts go ctx env (c ∷ []) es t)
        ∙ then_again (loop_parts go ctx env [] es t) (λ cs. give (c ∷ cs)) k
    by (Stopped f) = refl

-- ---- a call, an argument more

abbrev all_bound : World → Eval → Context → Function → Span → List Decl → ℕ → Sure → Env → List Cell → Run Cell
all_bound w go ctx f at ds n holds inner cs = weigh w.mode (all_lengths n cs) >> called_in w go ctx f at (all_suit f.result.ty.var ds cs holds) (with_arguments ds cs inner)

pub called_next : (w : World) (go : Eval) (ctx : Context) (f : Function) (at : Span) (d : Decl) (ds : List Decl) (e : Tree) (es : List Tree) (n : ℕ) (holds : Sure) (env inner : Env) (s : State) → called_on w go ctx f at (d ∷ ds) (e ∷ es) n holds env inner s ≡ then_do (go ctx e env s) (λ c. called_on w go ctx f at ds es (n + or_zero (length_of c)) (both_sure holds (argument_suits f.result.ty.var d.ty.ty.var Anything c)) env (bind d.slot c inner))
called_next w go ctx f at d ds e es n holds env inner s = parts_then go ctx env e es (all_bound w go ctx f at (d ∷ ds) n holds inner) s

pub called_last : (w : World) (go : Eval) (ctx : Context) (f : Function) (at : Span) (ds : List Decl) (es : List Core) (n : ℕ) (holds : Sure) (env inner : Env) (s : State) → length es ≡ 0 → called_on w go ctx f at ds (map tree es) n holds env inner s ≡ called_on_none w go ctx f at n holds inner s
called_last w go ctx f at [] [] n holds env inner s h = refl
called_last w go ctx f at (d ∷ ds) [] n holds env inner s h = refl
called_last w go ctx f at ds (e ∷ es) n holds env inner s h = absurd (omega arith)

pub no_decls : (ds : List CoreDecl) → length ds ≡ 0 → map decl ds ≡ []
no_decls [] h = refl
no_decls (d ∷ ds) h = absurd (omega arith)

all_taken : {A : Type 0} (xs : List A) → take (length xs) xs ≡ xs
all_taken [] = refl
all_taken (x ∷ xs) = ap (λ ys. x ∷ ys) (all_taken xs)

first_apart : {A B : Type 0} (see : A → B) (xs : List A) (d : A) → (length xs ≡ 0 → ⊥) → map see xs ≡ see (get_or xs 0 d) ∷ map see (take (length xs - 1) (drop 1 xs))
first_apart see [] d h = absurd (h refl)
first_apart see (x ∷ xs) d h =
    let fewer : length (x ∷ xs) - 1 ≡ length xs = omega arith in
    ap (λ ys. see x ∷ map see ys) (sym (ap (λ n. take n xs) fewer ∙ all_taken xs))

pub decls_apart : (ds : List CoreDecl) (d : CoreDecl) → (length ds ≡ 0 → ⊥) → map decl ds ≡ decl (get_or ds 0 d) ∷ map decl (take (length ds - 1) (drop 1 ds))
decls_apart ds d h = first_apart decl ds d h

pub trees_apart : (es : List Core) (e : Core) → (length es ≡ 0 → ⊥) → map tree es ≡ tree (get_or es 0 e) ∷ map tree (take (length es - 1) (drop 1 es))
trees_apart es e h = first_apart tree es e h

-- ---- the definition of calls, for such parameters

-- a parameter with these index sets and this set
abbrev parameter_by : Eval → Context → Bool → Env → Names → Decl → Tree → Cell → List (Option Tree) → Option Tree → Run Names
parameter_by go ctx var top b d e k is o = do
  ixs ← index_wants go ctx is (names_in b top)
  x ← want go ctx o (names_in b top)
  c ← fitted (place_of e) ixs k
  give (with_local b d.slot (c, both_sure (all_have_sets ixs) (argument_suits var d.ty.ty.var x c)))

abbrev named : Bool → Names → Decl → Cell → Names
named var b d c = with_local b d.slot (c, argument_suits var d.ty.ty.var Anything c)

plain_parameter : (go : Eval) (ctx : Context) (var : Bool) (top : Env) (b : Names) (d : Decl) (e : Tree) (c : Cell) (s : State) → IsPlain d → parameter go ctx var top b (d, e, c) s ≡ Out (named var b d c) s
plain_parameter go ctx var top b d e c s p =
    ap (λ is. parameter_by go ctx var top b d e c is d.ty.set s) p.index
    ∙ ap (λ o. parameter_by go ctx var top b d e c [] o s) p.set

names_last : (ss : List ℕ) (cs : List Cell) (slot : ℕ) (c : Cell) (env : Env) → length ss ≡ length cs → bind_all (ss ++ slot ∷ []) (cs ++ c ∷ []) env ≡ bind slot c (bind_all ss cs env)
names_last [] [] slot c env h = refl
names_last [] (x ∷ cs) slot c env h = absurd (omega arith)
names_last (z ∷ ss) [] slot c env h = absurd (omega arith)
names_last (z ∷ ss) (x ∷ cs) slot c env h = names_last ss cs slot c (bind z x env) (omega arith)

length_last : {A : Type 0} (xs : List A) (x : A) → length (xs ++ x ∷ []) ≡ suc (length xs)
length_last [] x = refl
length_last (y ∷ xs) x = ap suc (length_last xs x)

-- what follows the arguments: their weight, the parameters after those of `b`, and the call
abbrev bound_then : World → Eval → Context → Function → Span → Names → List Decl → List Tree → List Cell → Run Cell
bound_then w go ctx f at b ds es cs = loop (parameter go ctx f.result.ty.var w.top) b (arguments ds es cs) >>= called w go ctx f at

abbrev weighed_then : World → Eval → Context → Function → Span → Names → List Decl → List Tree → ℕ → List Cell → Run Cell
weighed_then w go ctx f at b ds es n cs = weigh w.mode (all_lengths n cs) >> bound_then w go ctx f at b ds es cs

bound_all : (w : World) (go : Eval) (ctx : Context) (f : Function) (at : Span) (env : Env) (ds : List Decl) (es : List Tree) (n : ℕ) (b : Names) (s : State) → ArePlain ds → length b.slots ≡ length b.cells → then_do (parts go ctx es env s) (weighed_then w go ctx f at b ds es n) ≡ called_on w go ctx f at ds es n b.holds env (names_in b w.top) s
bound_all w go ctx f at env [] [] n b s p h = refl
bound_all w go ctx f at env (d ∷ ds) [] n b s p h = refl
bound_all w go ctx f at env [] (e ∷ es) n b s p h = refl
bound_all w go ctx f at env (d ∷ ds) (e ∷ es) n b s p h =
    parts_then go ctx env e es (weighed_then w go ctx f at b (d ∷ ds) (e ∷ es) n) s
    ∙ then_same (go ctx e env s) (λ c t. then_do (parts go ctx es env t) (λ cs. weighed_then w go ctx f at b (d ∷ ds) (e ∷ es) n (c ∷ cs))) (λ c. called_on w go ctx f at ds es (n + or_zero (length_of c)) (both_sure b.holds (argument_suits f.result.ty.var d.ty.ty.var Anything c)) env (bind d.slot c (names_in b w.top))) (next (bound_all w go ctx f at env ds es))
    ∙ sym (called_next w go ctx f at d ds e es n b.holds env (names_in b w.top) s)
  where
    next : ((m : ℕ) (x : Names) (t : State) → ArePlain ds → length x.slots ≡ length x.cells → then_do (parts go ctx es env t) (weighed_then w go ctx f at x ds es m) ≡ called_on w go ctx f at ds es m x.holds env (names_in x w.top) t) → (c : Cell) (t : State) → then_do (parts go ctx es env t) (λ cs. weighed_then w go ctx f at b (d ∷ ds) (e ∷ es) n (c ∷ cs)) ≡ called_on w go ctx f at ds es (n + or_zero (length_of c)) (both_sure b.holds (argument_suits f.result.ty.var d.ty.ty.var Anything c)) env (bind d.slot c (names_in b w.top)) t
    next rest c t =
        let more : Names = named f.result.ty.var b d c in
        let m : ℕ = n + or_zero (length_of c) in
        let longer : length more.slots ≡ length more.cells = length_last b.slots d.slot ∙ ap suc h ∙ sym (length_last b.cells c) in
        then_same (parts go ctx es env t) (λ cs. weighed_then w go ctx f at b (d ∷ ds) (e ∷ es) n (c ∷ cs)) (weighed_then w go ctx f at more ds es m) (λ cs u. ap (λ a. then_do (then_do a (λ x. loop (parameter go ctx f.result.ty.var w.top) x (arguments ds es cs))) (called w go ctx f at)) (plain_parameter go ctx f.result.ty.var w.top b d e c (noted w.mode [] (all_lengths m cs) u) p.0))
        ∙ rest m more t p.1 longer
        ∙ ap (λ x. called_on w go ctx f at ds es m more.holds env x t) (names_last b.slots b.cells d.slot c w.top h)

abbrev call_by : World → Eval → Context → Span → List Tree → Env → Option Function → Run Cell
call_by w go ctx at es env o = parts go ctx es env >>= λ cells. call_of w go ctx o es cells at

pub plain_call : (w : World) (go : Eval) (ctx : Context) (n : ℕ) (f : Function) (es : List Tree) (at : Span) (env : Env) (s : State) → IsPlainAt w.functions n f → call w go ctx n es at env s ≡ called_on_all w go ctx f at es env s
plain_call w go ctx n f es at env s p =
    ap (λ o. call_by w go ctx at es env o s) p.found
    ∙ bound_all w go ctx f at env f.params es 0 nothing_bound s p.plain refl
