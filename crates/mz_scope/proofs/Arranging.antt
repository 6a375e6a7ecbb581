-- Parts with their declarations in order of evaluation are a scoped model.
use Rattle.std.proofs.Common.{◌≡◌, ℕ, zero, suc, ◌<◌, Bool, true, List, [], ◌∷◌, Vec, refl, ap, sym, ◌∙◌, subst, map, length, get_or, arith}
use Rattle.std.specs.Prelude.{All, Result, Ok, Err, IfOk, IfErr}
use Rattle.std.proofs.lemmas.List.{length-map, get_or-map}
use Rattle.mz_base.specs.declared.fault.Span.{Span}
use Rattle.mz_base.specs.declared.fault.Fault.{Fault}
use Rattle.std.specs.Borrow.{Bor}
use Rattle.std.specs.Global.{Global}
use Rattle.mz_base.specs.declared.kind.Kind.TheVariants.{Cyclic}
use Rattle.mz_base.specs.declared.stop.Stop.{Stop}
use Rattle.mz_base.specs.declared.stop.Stop.TheVariants.{Refused, Memory}
use Rattle.mz_base.specs.Faults.{fault_at, IfRefused}
use Rattle.mz_tree.specs.declared.expr.Form.TheViews.{out-Decl}
use Rattle.mz_tree.specs.declared.item.Function.{Function}
use Rattle.mz_tree.specs.Tree.{Declaration}
use Rattle.mz_tree.specs.Items.{ItemTree}
use Rattle.mz_tree.specs.Data.{Given}
use Rattle.mz_graph.specs.Graph.{IsIn}
use Rattle.mz_scope_names.specs.Given.{occurrences}
use Rattle.mz_scope_names.specs.Sets.{holds}
use Rattle.mz_scope_names.specs.Uses.{in_tree}
use Rattle.mz_scope_names.specs.Sketches.{Sketch, decl_sketch, function_sketch}
use Rattle.mz_scope_order.specs.Dependencies.{sketch_at, RefersTo, AreRanks, HaveRanks, IsStuckAt, IsBackAt}
use Rattle.mz_scope_order.specs.declared.sequence.Sequence.{Sequence}
use Rattle.mz_scope_order.specs.declared.sequence.Sequence.TheVariants.{Ordered, CyclicDecl, CyclicFunction}
use Rattle.mz_scope_order.specs.Answer.{AreOrders, IsAnswer}
use Rattle.mz_scope_order.specs.declared.subject.Subject.{Subject as CodeSubject}
use Rattle.mz_scope_order.specs.Subjects.{Subject, subject, IsTypeSequence, IsOrderOf}
use Rattle.mz_scope_order.specs.declared.parts.ModelParts.{ModelParts}
use Rattle.mz_scope_order.specs.declared.scoped.ScopedDecl.{ScopedDecl}
use Rattle.mz_scope_order.specs.Parts.{name_of, place_of, decl_at, function_at}
use Rattle.mz_scope_order.specs.Scoped.{ScopedTree, AreDistinct, shared_names, scoped_decl, lent_function, parts_tree, source_parts, in_order, IsScoped, AreRanked, IsCyclic, at_decl, at_function}
use Rattle.mz_scope_order.proofs.Apart.{in_order_counted}
use Rattle.mz_scope_order.proofs.Modelled.{order_of}
use Rattle.mz_scope_order.proofs.Renumbering.{turned, place, there, refers, from}
use Rattle.mz_scope.specs.StepsScope.{IsArranged, HasCycle, of_decl, of_function}
use Rattle.mz_scope.proofs.Turned.{all_counted}
use Rattle.mz_scope.proofs.Distinct.{HavePassed}
use Rattle.mz_scope.proofs.Distinct as names

pub scoped : (is : List ItemTree) (ds : List Given) (known : ℕ → Bool) (t s : ScopedTree) → HavePassed known (occurrences is ds) → t ≡ source_parts is ds → IsArranged t s → IsScoped is ds s
scoped is ds known t s h e k =
    let a = subst (λ z. IsArranged z s) e k in
    record {
      order = a.order;
      sequence = a.sequence;
      decls = ap (λ z. z.decls) a.is;
      enums = ap (λ z. z.enums) a.is;
      functions = ap (λ z. z.functions) a.is;
      constraints = ap (λ z. z.constraints) a.is;
      goal = ap (λ z. z.goal) a.is;
      outputs = ap (λ z. z.outputs) a.is;
      given = ap (λ z. z.given) a.is;
      distinct = subst (λ z. AreDistinct (shared_names z)) (sym a.is) (names.distinct is ds known h a.order a.sequence.is);
      declared = subst (λ z. All (λ d. holds d.name (map name_of z.decls) ≡ true) z.given) (sym a.is) (names.declared is ds known h a.order a.sequence.complete);
    }

cyclic_in : (is : List ItemTree) (ds : List Given) (f : Fault) → HasCycle (source_parts is ds) f → IsCyclic is f
cyclic_in is ds _ (of_decl d k) = at_decl d k
cyclic_in is ds _ (of_function f k) = at_function f k

pub cyclic : (is : List ItemTree) (ds : List Given) (t : ScopedTree) (f : Fault) → t ≡ source_parts is ds → HasCycle t f → IsCyclic is f
cyclic is ds t f e k = cyclic_in is ds f (subst (λ z. HasCycle z f) e k)

-- ranks of types, by the places in the order of evaluation

sketch_of : (ds : List Declaration) (k : ℕ) → decl_sketch (decl_at ds k) ≡ sketch_at (map decl_sketch ds) k
unfolding in_tree
sketch_of [] zero = refl
sketch_of [] (suc k) = refl
sketch_of (d ∷ ds) zero = refl
sketch_of (d ∷ ds) (suc k) = sketch_of ds k

sketches_of : (ds : List Declaration) (order : List ℕ) → map decl_sketch (map (decl_at ds) order) ≡ map (sketch_at (map decl_sketch ds)) order
sketches_of ds [] = refl
sketches_of ds (k ∷ order) = ap (λ z. z ∷ map decl_sketch (map (decl_at ds) order)) (sketch_of ds k) ∙ ap (λ z. sketch_at (map decl_sketch ds) k ∷ z) (sketches_of ds order)

module _ (decls functions : List Sketch) (order : List ℕ) (counted : (x : ℕ) → IsIn x order → x < length decls) (r : HaveRanks decls functions) where
  abbrev new : List Sketch
  new = turned decls order counted

  abbrev was : ℕ → ℕ
  was k = place decls order counted k

  pub ranks_turned : AreRanks new functions (λ k. r.of_decl (was k)) r.of_function
  ranks_turned = record {
    decl_decl = λ d e l u. r.are.decl_decl (was d) (was e) (from decls order counted d l) (refers decls order counted (sketch_at decls (was d)).types e (subst (λ z. RefersTo z.types new e) (there decls order counted d l) u));
    decl_function = λ d f l u. r.are.decl_function (was d) f (from decls order counted d l) (subst (λ z. RefersTo z.types functions f) (there decls order counted d l) u);
    function_decl = λ f e l u. r.are.function_decl f (was e) l (refers decls order counted (sketch_at functions f).types e u);
    function_function = λ f h l u. r.are.function_function f h l u;
  }

pub ranked : (t s : ScopedTree) → IsArranged t s → AreRanked s
ranked t s k =
    let r = k.sequence.ranked in
    subst (λ z. AreRanked z) (sym k.is) (record {
      of_decl = λ d. r.of_decl (get_or k.order d 0);
      of_function = r.of_function;
      are = subst (λ z. AreRanks z (map function_sketch t.functions) (λ d. r.of_decl (get_or k.order d 0)) r.of_function) (sym (sketches_of t.decls k.order))
          (ranks_turned (map decl_sketch t.decls) (map function_sketch t.functions) k.order (λ x a. in_order_counted (length (map decl_sketch t.decls)) k.order x k.sequence.is a) r);
    })

-- the order of types of the parts with their declarations in order of evaluation
pub ordered : (t s : ScopedTree) (order : List ℕ) (all : List Subject) → AreOrders (map decl_sketch t.decls) (map function_sketch t.functions) order all → s ≡ in_order t order → IsOrderOf s all
ordered t s order all a e =
    order_of s all (subst (λ z. IsTypeSequence (map decl_sketch z.decls) (map function_sketch z.functions) all) (sym e)
    (subst (λ z. IsTypeSequence z (map function_sketch t.functions) all) (sym (sketches_of t.decls order)) a.types))

-- what the code reads of the parts

pub decl_counted : (ds : List ScopedDecl) (k : ℕ) → k < length (map decl_sketch (map scoped_decl ds)) → k < length ds
decl_counted ds k l = let a = length-map (map scoped_decl ds) decl_sketch in let b = length-map ds scoped_decl in omega (arith, a, b, l)

pub function_counted : (fs : List (Bor Function)) (k : ℕ) → k < length (map function_sketch (map lent_function fs)) → k < length fs
function_counted fs k l = let a = length-map (map lent_function fs) function_sketch in let b = length-map fs lent_function in omega (arith, a, b, l)

pub decl_place : (ds : List ScopedDecl) (k : ℕ) (d : ScopedDecl) → k < length ds → d ≡ get_or ds k d → (out-Decl d.decl.now).span ≡ place_of (decl_at (map scoped_decl ds) k)
decl_place ds k d l e = sym (ap (λ z. place_of z) (get_or-map scoped_decl ds k d (decl_at [] 0) l ∙ ap (λ z. scoped_decl z) (sym e)))

pub function_place : (fs : List (Bor Function)) (k : ℕ) (f : Bor Function) → k < length fs → f ≡ get_or fs k f → f.now.span ≡ (function_at (map lent_function fs) k).span
function_place fs k f l e = sym (ap (λ z. z.span) (get_or-map lent_function fs k f (function_at [] 0) l ∙ ap (λ z. lent_function z) (sym e)))

-- what an order, or what has none, says of the parts

pub orders_of : (p : ModelParts) (s : Sequence) (order : Vec ℕ Global) (types : Vec CodeSubject Global) → IsAnswer (map decl_sketch (parts_tree p).decls) (map function_sketch (parts_tree p).functions) s → s ≡ Ordered order types → AreOrders (map decl_sketch (parts_tree p).decls) (map function_sketch (parts_tree p).functions) order.items (map subject types.items)
orders_of p s order types k e = subst (λ z. IsAnswer (map decl_sketch (parts_tree p).decls) (map function_sketch (parts_tree p).functions) z) e k

pub within_parts : (p : ModelParts) (s : Sequence) (order : Vec ℕ Global) (types : Vec CodeSubject Global) (read : List ℕ) → IsAnswer (map decl_sketch (parts_tree p).decls) (map function_sketch (parts_tree p).functions) s → s ≡ Ordered order types → read ≡ order.items → All (λ k. k < length p.decls.items) read
within_parts p s order types read k e r =
    let q = (orders_of p s order types k e).sequence in
    let n : length (map decl_sketch (map scoped_decl p.decls.items)) ≡ length p.decls.items = length-map (map scoped_decl p.decls.items) decl_sketch ∙ length-map p.decls.items scoped_decl in
    subst (λ z. All (λ k. k < length p.decls.items) z) (sym r) (subst (λ z. All (λ k. k < z) order.items) n (all_counted (length (map decl_sketch (map scoped_decl p.decls.items))) order.items q.is))

pub cyclic_decl : (p : ModelParts) (s : Sequence) (d : ℕ) (x : ScopedDecl) (at : Span) (stop : Stop) → IsAnswer (map decl_sketch (parts_tree p).decls) (map function_sketch (parts_tree p).functions) s → s ≡ CyclicDecl d → x ≡ get_or p.decls.items d x → at ≡ (out-Decl x.decl.now).span → stop ≡ Refused (fault_at Cyclic at) → IfRefused stop (HasCycle (parts_tree p))
cyclic_decl p s d x at stop k e i a r =
    let q : IsStuckAt (map decl_sketch (parts_tree p).decls) (map function_sketch (parts_tree p).functions) d = subst (λ z. IsAnswer (map decl_sketch (parts_tree p).decls) (map function_sketch (parts_tree p).functions) z) e k in
    let l = decl_counted p.decls.items d q.first.counted in
    subst (λ z. IfRefused z (HasCycle (parts_tree p))) (sym (r ∙ ap (λ z. Refused (fault_at Cyclic z)) (a ∙ decl_place p.decls.items d x l i))) (of_decl d q)

pub cyclic_function : (p : ModelParts) (s : Sequence) (f : ℕ) (x : Bor Function) (stop : Stop) → IsAnswer (map decl_sketch (parts_tree p).decls) (map function_sketch (parts_tree p).functions) s → s ≡ CyclicFunction f → x ≡ get_or p.functions.items f x → stop ≡ Refused (fault_at Cyclic x.now.span) → IfRefused stop (HasCycle (parts_tree p))
cyclic_function p s f x stop k e i r =
    let q : IsBackAt (map decl_sketch (parts_tree p).decls) (map function_sketch (parts_tree p).functions) f = subst (λ z. IsAnswer (map decl_sketch (parts_tree p).decls) (map function_sketch (parts_tree p).functions) z) e k in
    let l = function_counted p.functions.items f q.counted in
    subst (λ z. IfRefused z (HasCycle (parts_tree p))) (sym (r ∙ ap (λ z. Refused (fault_at Cyclic z)) (function_place p.functions.items f x l i))) (of_function f q)

-- what is said of an answer

pub if_ok : {X E : Type 0} (P Q : X → Type 0) (r : Result X E) → ((x : X) → P x → Q x) → IfOk r P → IfOk r Q
if_ok P Q (Ok x) f h = f x h
if_ok P Q (Err e) f h = tt

if_refused : (P Q : Fault → Type 0) (s : Stop) → ((f : Fault) → P f → Q f) → IfRefused s P → IfRefused s Q
if_refused P Q (Refused f) g h = g f h
if_refused P Q Memory g h = tt

pub if_err_refused : {X : Type 0} (P Q : Fault → Type 0) (r : Result X Stop) → ((f : Fault) → P f → Q f) → IfErr r (λ s. IfRefused s P) → IfErr r (λ s. IfRefused s Q)
if_err_refused P Q (Ok x) g h = tt
if_err_refused P Q (Err s) g h = if_refused P Q s g h
