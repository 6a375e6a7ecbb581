-- The whole front.
use Rattle.std.proofs.Common.{◌≡◌, ◌⊎◌, ℕ, suc, ◌+◌, ◌<◌, ◌≤◌, ◌^◌, List, [], ◌∷◌, ◌++◌, length, map, slice_get, Bool, true, false, Option, Some, IsSome, inl, inr, refl, sym, ap, subst, ◌∙◌, arith, append-nil, append_assoc}
use Rattle.std.specs.List.{AllByRecursion}
use Rattle.std.proofs.lemmas.List.{length-map}
use Rattle.mz_arena.specs.declared.node.NodeKind.{NodeKind}
use Rattle.mz_arena.specs.declared.node.NodeKind.TheVariants as kinds
use Rattle.mz_arena.specs.declared.instance.ModelVar.{ModelVar as CodeVar}
use Rattle.mz_arena.specs.Entries.{Entry, at, is_free, is_local}
use Rattle.mz_arena.specs.Instances.{ModelVar, model_var, var_cell}
use Rattle.mz_instance.specs.Parts.{ids}
use Rattle.fz_program.specs.Names.{Name}
use Rattle.fz_program.specs.Arguments.{Plain, var}
use Rattle.fz_program.specs.Flat.{Program, ArrayItem, Variable}
use Rattle.fz_program.specs.declared.program.FzGoal.TheVariants.{Satisfy}
use Rattle.fz_build.specs.Build.{empty, with_array}
use Rattle.flat_meaning.specs.Front.{front_variables, front_arrays}
use Rattle.flat_reif.specs.States.{State}
use Rattle.flat_reif.specs.Lists.{HasFront, is_front}
use Rattle.flat_reif.specs.Roots.{begun}
use Rattle.flat.specs.Declaring.{all_declared, MayDeclareVars, AreVarsDeclared}
use Rattle.flat.specs.Arrays.{with_arrays, MayAddAll, MayAddArrays, AreAdded, HaveAllElements, all_arrays}
use Rattle.flat.specs.Fronts.{AreFrontOf, MayHaveFront, IsFronted, IsOfPart, front_program}
use Rattle.flat.proofs.Labels.{AreSmall}
use Rattle.flat.proofs.Declarable.{front_may, nodes, begun_ready, declared_prog, declared_es, declared_has, declared_only, IsAmong, with_vars}
use Rattle.flat.proofs.Addable.{arrays_may, arrays_by_nodes, have_elements}

-- a list of the code has fewer elements than 64 bits count
small_vars : (ms : List CodeVar) → AreSmall (map model_var ms)
small_vars [] = tt
small_vars (m ∷ ms) = (one m, small_vars ms)
  where
    one : (m : CodeVar) → 1 + length (map var_cell m.cells.items) ≤ 2 ^ 64
    one m = let l = length-map m.cells.items var_cell in omega (arith, l, m.cells.ok.0, m.cells.ok.1, m.cells.small)

with_arrays_is : (p : Program) (items : List ArrayItem) → with_arrays p items ≡ record { vars = p.vars; arrays = p.arrays ++ items; rows = p.rows; goal = p.goal }
with_arrays_is p [] = ap (λ xs. record { vars = p.vars; arrays = xs; rows = p.rows; goal = p.goal }) (sym (append-nil p.arrays))
with_arrays_is p (a ∷ more) = with_arrays_is (with_array p a) more ∙ ap (λ xs. record { vars = p.vars; arrays = xs; rows = p.rows; goal = p.goal }) (append_assoc p.arrays (a ∷ []) more)

free_front : (k : NodeKind) → is_front k ≡ true → is_free k ≡ true
free_front kinds.Var h = refl
free_front kinds.SetVar h = refl
free_front _ h = absurd (cc)

not_local : (k : NodeKind) → is_front k ≡ true → is_local k ≡ false
not_local kinds.Var h = refl
not_local kinds.SetVar h = refl
not_local _ h = absurd (cc)

module _ (s : State) (table : List Name) (all : List CodeVar) (h : MayHaveFront s table (map model_var all)) where
  abbrev ms : List ModelVar
  ms = map model_var all

  pub may_vars : MayDeclareVars s table ms
  may_vars = subst (λ x. MayDeclareVars x table ms) (sym h.begins) (front_may s.es table ms h.front (small_vars all))

  module _ (t : State) (d : AreVarsDeclared s t table ms) where
    abbrev u : State
    u = all_declared (begun s.es) (ids ms) (front_variables table ms)

    is_u : t ≡ u
    is_u = d.same ∙ ap (λ x. all_declared x (ids ms) (front_variables table ms)) h.begins

    prog_is : t.prog ≡ with_vars empty (front_variables table ms)
    prog_is = ap (λ (x : State). x.prog) is_u ∙ declared_prog (begun s.es) 0 (ids ms) (front_variables table ms) (nodes s.es table ms h.front)

    es_is : t.es ≡ s.es
    es_is = ap (λ (x : State). x.es) is_u ∙ declared_es (begun s.es) (ids ms) (front_variables table ms)

    args_are : (k i : ℕ) → slice_get (ids ms) k ≡ Some i → at t.args i ≡ Some (var k)
    args_are k i e =
        ap (λ (x : State). at x.args i) is_u
        ∙ declared_has (begun s.es) 0 (ids ms) (front_variables table ms) (begun_ready s.es) (nodes s.es table ms h.front) k i e
        ∙ ap (λ n. Some (var n)) (omega arith)

    only_parts : (i : ℕ) (p : Plain) → at t.args i ≡ Some p → IsOfPart ms i p
    only_parts i p e = elim (declared_only (begun s.es) 0 (ids ms) (front_variables table ms) (begun_ready s.es) (nodes s.es table ms h.front) i p (sym (ap (λ (x : State). at x.args i) is_u) ∙ e)) [
      | inl o ↦ nothing o
      | inr a ↦ record { number = a.number; part = a.part; is = a.is_ ∙ ap var (omega arith) }
    ]
      where
        nothing : {A : Type 0} → at [] i ≡ Some p → A
        nothing o = absurd (cc)

    pub elements_of : HaveAllElements t.args ms
    elements_of = have_elements t.args ms h.front.vars args_are

    arrays_are : all_arrays t.args table ms ≡ front_arrays table 0 ms
    arrays_are = arrays_by_nodes t.args ms h.front.vars args_are table

    pub may_arrays : MayAddArrays t (all_arrays t.args table ms)
    may_arrays = subst (MayAddAll t.prog) (sym arrays_are) (arrays_may table ms t.prog h.front.vars (small_vars all) h.front.named (ap (λ (p : Program). p.vars) prog_is) (ap (λ (p : Program). p.arrays) prog_is))

    has_front : (x : State) → x.es ≡ s.es → x.args ≡ t.args → HasFront x
    has_front x e a id n is front =
        let old : slice_get s.es id ≡ Some n = ap (λ es. slice_get es id) (sym e) ∙ is in
        let part = h.front.no_more id n old (free_front n.node.kind front) (not_local n.node.kind front) in
        subst (λ (o : Option Plain). IsSome o) (sym (ap (λ args. at args id) a ∙ args_are n.node.b id part)) refl

    pub fronted : (x : State) → AreAdded t x (all_arrays t.args table ms) → IsFronted s x table ms
    fronted x a =
        let es : x.es ≡ s.es = ap (λ (y : State). y.es) a.same ∙ es_is in
        let args : x.args ≡ t.args = ap (λ (y : State). y.args) a.same in
        record {
          same = es;
          prog = ap (λ (y : State). y.prog) a.same ∙ with_arrays_is t.prog (all_arrays t.args table ms) ∙ ap (λ (p : Program). record { vars = p.vars; arrays = p.arrays ++ all_arrays t.args table ms; rows = p.rows; goal = p.goal }) prog_is ∙ ap (λ items. record { vars = front_variables table ms; arrays = items; rows = []; goal = Satisfy }) arrays_are;
          args = λ k i e. ap (λ zs. at zs i) args ∙ args_are k i e;
          only = λ i p e. only_parts i p (ap (λ zs. at zs i) (sym args) ∙ e);
          state = a.state;
          front = has_front x es args;
        }
