-- The arguments of a list's elements, from the first to the last.
use Rattle.std.proofs.Common.{◌≡◌, ℕ, ◌<◌, List, [], ◌∷◌, ◌++◌, length, map, take, Option, Some, None, IsSome, option_map, slice_get, refl, sym, ap, ap₂, subst, ◌∙◌}
use Rattle.mz_arena.specs.declared.node.Node.{Node}
use Rattle.mz_arena.specs.declared.node.NodeKind.{NodeKind}
use Rattle.mz_arena.specs.declared.node.NodeKind.TheVariants as kinds
use Rattle.mz_arena.specs.Entries.{AllBelow, Entry, at, arity, children}
use Rattle.mz_arena.specs.Values as terms
use Rattle.mz_arena.specs.Values.{cons_term}
use Rattle.mz_arena.specs.Terms.{term, kind_term}
use Rattle.mz_arena.specs.InBounds.{AreInDomains}
use Rattle.mz_arena.proofs.Folds.{get-below}
use Rattle.fz_program.specs.declared.program.Arg.{Arg}
use Rattle.fz_program.specs.Arguments.{Plain, plain, plains}
use Rattle.fz_program.specs.Values.{Values}
use Rattle.fz_build.proofs.Copies.{pushed_plains}
use Rattle.flat_reif_rows.specs.Standing.{seen}
use Rattle.flat_reif_rows.specs.Elements.{list_term}
use Rattle.flat_reif_rows.proofs.Chains.{plain_taken, all_in_turn}
use Rattle.flat_reif.specs.States.{State, Meets, IsState}
use Rattle.flat_reif.specs.Lists.{IsNode, ListArgs, nil, cons, IsListed, HasArg}
use Rattle.flat_reif.proofs.Longer.{nothing_more}
use Rattle.flat_reif.proofs.Steps.{same_entry}
use Rattle.flat_reif.proofs.Nodes.{term_here}

-- the list's arguments are those so far, and then those of the list at this id
pub record GatheredSoFar (s : State) (list here : ℕ) (items : List Plain) : Type 0 where
  pub listed : IsListed s here
  pub joins : (rest : List Plain) → ListArgs s.es s.args here rest → ListArgs s.es s.args list (items ++ rest)

-- ---- the parts of a list

kinds_apart : {A : Type 0} (k : NodeKind) → k ≡ kinds.Nil → k ≡ kinds.Cons → A
kinds_apart k h l = absurd (other (sym h ∙ l))
  where
    other : kinds.Nil ≡ kinds.Cons → ⊥
    other p = cc

-- what stands first, and the rest
pub record IsSplit (s : State) (n : Node) : Type 0 where
  pub here : HasArg s n.a
  pub rest : IsListed s n.b

some_is : (o : Option Plain) (p : Plain) → o ≡ Some p → IsSome o
some_is None p h = absurd (cc)
some_is (Some q) p h = refl

module _ (s : State) where
  split_entry : (id : ℕ) (e : Entry) (ps : List Plain) → slice_get s.es id ≡ Some e → e.node.kind ≡ kinds.Cons → ListArgs s.es s.args id ps → IsSplit s e.node
  split_entry id e [] is kind (nil d at_id k) = kinds_apart e.node.kind (ap (λ (z : Entry). z.node.kind) (same_entry s.es id id e d refl at_id is) ∙ k) kind
  split_entry id e (p ∷ ps) is kind (cons d at_id k here rest) =
      subst (λ (z : Entry). IsSplit s z.node) (same_entry s.es id id d e refl is at_id) (record { here = some_is (at s.args d.node.a) p here; rest = record { items = ps; args = rest } })

  end_entry : (id : ℕ) (ps : List Plain) → ListArgs s.es s.args id ps → ((e : Entry) → slice_get s.es id ≡ Some e → e.node.kind ≡ kinds.Cons → ⊥) → ListArgs s.es s.args id []
  end_entry id [] (nil d at_id k) apart = nil d at_id k
  end_entry id (p ∷ ps) (cons d at_id k here rest) apart = absurd (apart d at_id k)

  list_place : (id : ℕ) (ps : List Plain) → ListArgs s.es s.args id ps → id < length s.es
  list_place id [] (nil d at_id k) = get-below s.es id d at_id
  list_place id (p ∷ ps) (cons d at_id k here rest) = get-below s.es id d at_id

  pub listed_place : (id : ℕ) → IsListed s id → id < length s.es
  listed_place id l = list_place id l.items l.args

  pub first_split : (id : ℕ) (n : Node) → IsListed s id → IsNode s.es id n → n.kind ≡ kinds.Cons → IsSplit s n
  first_split id n l h kind = subst (IsSplit s) h.node (split_entry id h.entry l.items h.is (ap (λ (m : Node). m.kind) h.node ∙ kind) l.args)

  pub below_cons : IsState s → (id : ℕ) (n : Node) → IsNode s.es id n → n.kind ≡ kinds.Cons → n.b < id
  below_cons g id n h kind =
      let all : AllBelow id (children n) = subst (λ (m : Node). AllBelow id (children m)) h.node (g.arena.ordered id h.entry h.is) in
      (subst (λ k. AllBelow id (take (arity k) (n.a ∷ n.b ∷ n.c ∷ []))) kind all).1.0

  -- ---- the loop

  pub gather_begin : (list : ℕ) (items : List Arg) → items ≡ [] → IsListed s list → GatheredSoFar s list list (plains items)
  gather_begin list items e l = record { listed = l; joins = λ rest r. subst (λ xs. ListArgs s.es s.args list (plains xs ++ rest)) (sym e) r }

  pub gather_next : (list here : ℕ) (n : Node) (items new : List Arg) (a : Arg) → GatheredSoFar s list here (plains items) → IsNode s.es here n → n.kind ≡ kinds.Cons → at s.args n.a ≡ Some (plain a) → new ≡ items ++ a ∷ [] → GatheredSoFar s list n.b (plains new)
  gather_next list here n items new a so h kind is push = record {
    listed = (first_split here n so.listed h kind).rest;
    joins = λ rest r.
        subst (ListArgs s.es s.args list) (sym (all_in_turn (plains items) (plain a ∷ []) rest) ∙ ap (λ ps. ps ++ rest) (sym (pushed_plains items new items a push refl)))
        (so.joins (plain a ∷ rest) (cons h.entry h.is (ap (λ (m : Node). m.kind) h.node ∙ kind) (subst (λ (m : Node). at s.args m.a ≡ Some (plain a)) (sym h.node) is) (subst (λ (m : Node). ListArgs s.es s.args m.b rest) (sym h.node) r)));
  }

  pub gather_end : (list here : ℕ) (n : Node) (items : List Arg) → GatheredSoFar s list here (plains items) → IsNode s.es here n → (n.kind ≡ kinds.Cons → ⊥) → ListArgs s.es s.args list (plains items)
  gather_end list here n items so h apart =
      subst (ListArgs s.es s.args list) (nothing_more (plains items))
      (so.joins [] (end_entry here so.listed.items so.listed.args (λ e is kind. apart (sym (ap (λ (m : Node). m.kind) h.node) ∙ ap (λ (z : Entry). z.node.kind) (same_entry s.es here here h.entry e refl is h.is) ∙ kind))))

  -- ---- what a list means

  pub list_value : IsState s → (v : terms.Values) (f : Values) → AreInDomains s.es v → Meets s v f → (id : ℕ) (ps : List Plain) → ListArgs s.es s.args id ps → term v s.es id ≡ list_term f ps
  list_value g v f d m id [] (nil e is kind) = term_here s id e v g is ∙ ap (λ k. kind_term v e k (map (term v s.es) (take (arity k) (e.node.a ∷ e.node.b ∷ e.node.c ∷ [])))) kind
  list_value g v f d m id (p ∷ ps) (cons e is kind here rest) =
      term_here s id e v g is ∙ ap (λ k. kind_term v e k (map (term v s.es) (take (arity k) (e.node.a ∷ e.node.b ∷ e.node.c ∷ [])))) kind
      ∙ ap₂ cons_term (g.right v f d m e.node.a p here) (list_value g v f d m e.node.b ps rest)

  pub list_taken : IsState s → (f : Values) (id : ℕ) (ps : List Plain) → ListArgs s.es s.args id ps → list_term (take (length s.prog.vars) f) ps ≡ list_term f ps
  list_taken g f id [] (nil e is kind) = refl
  list_taken g f id (p ∷ ps) (cons e is kind here rest) =
      ap₂ cons_term (ap (λ x. Some (seen x)) (plain_taken (length s.prog.vars) f p (g.places e.node.a p here))) (list_taken g f e.node.b ps rest)

-- ---- the code's node

same_node : (x y : Node) → Some x ≡ Some y → x ≡ y
same_node x y h = cc

pub is_node : (es : List Entry) (id : ℕ) (n : Node) → option_map (λ (e : Entry). e.node) (slice_get es id) ≡ Some n → IsNode es id n
is_node es id n h = by (slice_get es id) refl h
  where
    by : (o : Option Entry) → slice_get es id ≡ o → option_map (λ (e : Entry). e.node) o ≡ Some n → IsNode es id n
    by None is k = absurd (cc)
    by (Some e) is k = record { entry = e; is = is; node = same_node e.node n k }
