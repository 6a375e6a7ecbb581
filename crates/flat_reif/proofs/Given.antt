-- Which nodes have an argument of their own.
use Rattle.std.proofs.Common.{◌≡◌, ℕ, Bool, true, false, List, [], ◌∷◌, map, take, Option, Some, None, IsSome, slice_get, inl, inr, if◌then◌else◌, refl, sym, ap, subst, ◌∙◌}
use Rattle.std.specs.Prelude.{Result, Ok, Err, IfOk, OnOk}
use Rattle.std.specs.List.{AllByRecursion}
use Rattle.mz_operations.specs.Views.{◌>>=◌}
use Rattle.mz_arena.specs.declared.node.Node.{Node}
use Rattle.mz_arena.specs.declared.node.NodeKind.{NodeKind}
use Rattle.mz_arena.specs.declared.node.NodeKind.TheVariants as kinds
use Rattle.mz_arena.specs.Entries.{Entry, at, arity, children}
use Rattle.mz_arena.specs.Extents.{Known, whole, truth, subset, wholes, truths, subsets, empty, as_single, as_wholes, as_subsets, is_truths, before_extent, cons_extent, extent, kind_extent}
use Rattle.fz_program.specs.declared.row_name.RowName.{RowName}
use Rattle.fz_program.specs.Arguments.{Plain}
use Rattle.fz_program.specs.Flat.{Program, Variable}
use Rattle.flat_reif_rows.specs.Standing.{extent_over}
use Rattle.flat_reif_rows.specs.NodeRows.{row_of_one, row_of_two, HasDivisor}
use Rattle.flat_reif_rows.specs.Laws.{is_own}
use Rattle.flat_reif_rows.specs.Making.{AreOperands, Makes}
use Rattle.mz_interval.specs.Ends.{Ends}
use Rattle.fz_build.specs.Bounds.{ends_of}
use Rattle.flat_reif.specs.NodeKinds.{divides}
use Rattle.flat_reif.specs.States.{State, IsState, Flattened, put_at}
use Rattle.flat_reif.specs.Lists.{IsNode, ListArgs, nil, cons, HasArg, IsGiven, IsReady, Gives}
use Rattle.flat_reif.proofs.Puts.{put_here}
use Rattle.flat_reif.proofs.Steps.{Stands, with_arg, put_step}
use Rattle.flat_reif.proofs.Nodes.{extent_here, AllHave, known_told, operands, made_stands}
use Rattle.flat_reif.proofs.Kids.{Single, one_kid, two_kids, sum_kids}

-- ---- lists have no bounds of one element

before_many : (x y : Known) → as_single (as_single x >>= λ b. before_extent b y) ≡ None
before_many None y = refl
before_many (Some (whole e)) y = of_wholes (as_wholes y)
  where
    of_wholes : (o : Option _) → as_single (o >>= λ es. Some (wholes (e ∷ es))) ≡ None
    of_wholes None = refl
    of_wholes (Some es) = refl
before_many (Some (truth e)) y = of_truths (is_truths y)
  where
    of_truths : (b : Bool) → as_single (if b then Some truths else None) ≡ None
    of_truths true = refl
    of_truths false = refl
before_many (Some (subset u)) y = of_subsets (as_subsets y)
  where
    of_subsets : (o : Option _) → as_single (o >>= λ us. Some (subsets (u ∷ us))) ≡ None
    of_subsets None = refl
    of_subsets (Some us) = refl
before_many (Some (wholes es)) y = refl
before_many (Some truths) y = refl
before_many (Some (subsets us)) y = refl
before_many (Some empty) y = refl

cons_many : (x y : Known) → as_single (cons_extent x y) ≡ None
unfolding cons_extent
cons_many x y = before_many x y

module _ (s : State) (g : IsState s) where
  by_kind_is : (id : ℕ) (e : Entry) (k : NodeKind) → slice_get s.es id ≡ Some e → e.node.kind ≡ k → extent s.es id ≡ kind_extent e k (map (extent s.es) (take (arity k) (e.node.a ∷ e.node.b ∷ e.node.c ∷ [])))
  by_kind_is id e k is kind = extent_here s id e g is ∙ ap (λ j. kind_extent e j (map (extent s.es) (take (arity j) (e.node.a ∷ e.node.b ∷ e.node.c ∷ [])))) kind

  pub list_many : (id : ℕ) (ps : List Plain) → ListArgs s.es s.args id ps → as_single (extent s.es id) ≡ None
  list_many id [] (nil e is kind) = ap as_single (by_kind_is id e kinds.Nil is kind)
  list_many id (p ∷ ps) (cons e is kind here rest) = ap as_single (by_kind_is id e kinds.Cons is kind) ∙ cons_many (extent s.es e.node.a) (extent s.es e.node.b)

  none_some : {A B : Type 0} (o : Option A) → o ≡ None → IsSome o → B
  none_some None h k = absurd (cc)
  none_some (Some a) h k = absurd (cc)

  pub has_arg : (id : ℕ) → IsGiven s id → Single (extent s.es id) → HasArg s id
  has_arg id (inl h) single = h
  has_arg id (inr l) single = none_some (as_single (extent s.es id)) (list_many id l.items l.args) single

-- ---- the children of a node

pub record HaveOne (s : State) (n : Node) : Type 0 where
  pub a : HasArg s n.a

pub record HaveTwo (s : State) (n : Node) : Type 0 where
  pub a : HasArg s n.a
  pub b : HasArg s n.b

pub children_one : (n : Node) → arity n.kind ≡ 1 → children n ≡ n.a ∷ []
children_one n h = ap (λ m. take m (n.a ∷ n.b ∷ n.c ∷ [])) h

pub children_two : (n : Node) → arity n.kind ≡ 2 → children n ≡ n.a ∷ n.b ∷ []
children_two n h = ap (λ m. take m (n.a ∷ n.b ∷ n.c ∷ [])) h

module _ (s : State) (id : ℕ) (n : Node) (g : IsState s) (own : is_own n.kind ≡ false) where
  -- what the entry of the node tells, in the words of the node
  pub known_at : IsNode s.es id n → IsSome (extent_over n.kind (map (extent s.es) (children n)))
  known_at h = subst (λ (m : Node). IsSome (extent_over m.kind (map (extent s.es) (children m)))) h.node (known_told s id h.entry g h.is (subst (λ (m : Node). is_own m.kind ≡ false) (sym h.node) own))

  pub operands_at : IsNode s.es id n → (ps : List Plain) → AllHave s (children n) ps → AreOperands s.prog.vars n.kind ps
  operands_at h ps have =
      subst (λ (m : Node). AreOperands s.prog.vars m.kind ps) h.node
      (operands s id h.entry g h.is (subst (λ (m : Node). is_own m.kind ≡ false) (sym h.node) own) ps (subst (λ (m : Node). AllHave s (children m) ps) (sym h.node) have))

  pub made_at : IsReady s id n → (q : Program) (ps : List Plain) (out : Plain) → AllHave s (children n) ps → Makes s.prog q n.kind ps out → Stands s q id out
  made_at r q ps out have makes =
      let h = r.at_id in
      made_stands s id h.entry g h.is (subst (λ (m : Node). is_own m.kind ≡ false) (sym h.node) own) q ps out r.none r.total (subst (λ (m : Node). AllHave s (children m) ps) (sym h.node) have)
      (subst (λ (m : Node). Makes s.prog q m.kind ps out) (sym h.node) makes)

-- the step, with the code's list of arguments
pub gives_flat : (s : State) (q : Program) (id : ℕ) (out : Plain) (args : List (Option Plain)) → Flattened s (with_arg s q id out) → args ≡ put_at s.args id out → Gives s (record { es = s.es; prog = q; args = args }) id
gives_flat s q id out args h is = subst (λ xs. Gives s (record { es = s.es; prog = q; args = xs }) id) (sym is) (record { flattened = h; given = inl (there (at (put_at s.args id out) id) (put_here s.args id out)) })
  where
    there : (o : Option Plain) → o ≡ Some out → IsSome o
    there None k = absurd (cc)
    there (Some p) k = refl

pub gives_at : (s : State) (q : Program) (id : ℕ) (out : Plain) (args : List (Option Plain)) → IsState s → Stands s q id out → args ≡ put_at s.args id out → Gives s (record { es = s.es; prog = q; args = args }) id
gives_at s q id out args g h is = gives_flat s q id out args (put_step s q id out g h) is

-- ---- rows of one child and of two

pub one_arity : (k : NodeKind) (name : RowName) → row_of_one k ≡ Some name → (arity k ≡ 1) × (is_own k ≡ false)
one_arity kinds.Not name r = (refl, refl)
one_arity kinds.ToInt name r = (refl, refl)
one_arity kinds.Abs name r = (refl, refl)
one_arity kinds.Card name r = (refl, refl)
one_arity _ name r = absurd (cc)

pub two_arity : (k : NodeKind) (name : RowName) → row_of_two k ≡ Some name → (arity k ≡ 2) × (is_own k ≡ false)
two_arity kinds.Eq name r = (refl, refl)
two_arity kinds.Ne name r = (refl, refl)
two_arity kinds.Le name r = (refl, refl)
two_arity kinds.Lt name r = (refl, refl)
two_arity kinds.And name r = (refl, refl)
two_arity kinds.Or name r = (refl, refl)
two_arity kinds.Iff name r = (refl, refl)
two_arity kinds.Member name r = (refl, refl)
two_arity kinds.Mul name r = (refl, refl)
two_arity kinds.Div name r = (refl, refl)
two_arity kinds.Mod name r = (refl, refl)
two_arity kinds.Union name r = (refl, refl)
two_arity kinds.Intersect name r = (refl, refl)
two_arity kinds.Diff name r = (refl, refl)
two_arity kinds.Symdiff name r = (refl, refl)
two_arity kinds.SetEq name r = (refl, refl)
two_arity kinds.Subset name r = (refl, refl)
two_arity _ name r = absurd (cc)

module _ (s : State) (id : ℕ) (n : Node) (g : IsState s) (r : IsReady s id n) where
  -- one child that is no list
  one_has : arity n.kind ≡ 1 → Single (extent s.es n.a) → HasArg s n.a
  one_has ar single = has_arg s g n.a (subst (AllByRecursion (IsGiven s)) (children_one n ar) r.given).0 single

  two_have : arity n.kind ≡ 2 → Single (extent s.es n.a) × Single (extent s.es n.b) → HaveTwo s n
  two_have ar single =
      let given = subst (AllByRecursion (IsGiven s)) (children_two n ar) r.given in
      record { a = has_arg s g n.a given.0 single.0; b = has_arg s g n.b given.1.0 single.1 }

  known_one : arity n.kind ≡ 1 → is_own n.kind ≡ false → IsSome (extent_over n.kind (extent s.es n.a ∷ []))
  known_one ar own = subst (λ is. IsSome (extent_over n.kind (map (extent s.es) is))) (children_one n ar) (known_at s id n g own r.at_id)

  known_two : arity n.kind ≡ 2 → is_own n.kind ≡ false → IsSome (extent_over n.kind (extent s.es n.a ∷ extent s.es n.b ∷ []))
  known_two ar own = subst (λ is. IsSome (extent_over n.kind (map (extent s.es) is))) (children_two n ar) (known_at s id n g own r.at_id)

  pub have_one : (name : RowName) → row_of_one n.kind ≡ Some name → HasArg s n.a
  have_one name row = let ar = one_arity n.kind name row in one_has ar.0 (one_kid n.kind name (extent s.es n.a) row (known_one ar.0 ar.1))

  pub have_two : (name : RowName) → row_of_two n.kind ≡ Some name → HaveTwo s n
  have_two name row = let ar = two_arity n.kind name row in two_have ar.0 (two_kids n.kind name (extent s.es n.a) (extent s.es n.b) row (known_two ar.0 ar.1))

  pub all_one : (p : Plain) → arity n.kind ≡ 1 → at s.args n.a ≡ Some p → AllHave s (children n) (p ∷ [])
  all_one p ar h = subst (λ is. AllHave s is (p ∷ [])) (sym (children_one n ar)) (h, tt)

  pub all_two : (p q : Plain) → arity n.kind ≡ 2 → at s.args n.a ≡ Some p → at s.args n.b ≡ Some q → AllHave s (children n) (p ∷ q ∷ [])
  all_two p q ar h k = subst (λ is. AllHave s is (p ∷ q ∷ [])) (sym (children_two n ar)) (h, (k, tt))

  pub operands_one : (name : RowName) (p : Plain) → row_of_one n.kind ≡ Some name → at s.args n.a ≡ Some p → AreOperands s.prog.vars n.kind (p ∷ [])
  operands_one name p row h = let ar = one_arity n.kind name row in operands_at s id n g ar.1 r.at_id (p ∷ []) (all_one p ar.0 h)

  pub operands_two : (name : RowName) (p q : Plain) → row_of_two n.kind ≡ Some name → at s.args n.a ≡ Some p → at s.args n.b ≡ Some q → AreOperands s.prog.vars n.kind (p ∷ q ∷ [])
  operands_two name p q row h k = let ar = two_arity n.kind name row in operands_at s id n g ar.1 r.at_id (p ∷ q ∷ []) (all_two p q ar.0 h k)

  pub one_given : (name : RowName) (p : Plain) (q : Program) (out : Plain) (args : List (Option Plain)) → row_of_one n.kind ≡ Some name → at s.args n.a ≡ Some p → Makes s.prog q n.kind (p ∷ []) out → args ≡ put_at s.args id out → Gives s (record { es = s.es; prog = q; args = args }) id
  one_given name p q out args row h makes is =
      let ar = one_arity n.kind name row in
      gives_at s q id out args g (made_at s id n g ar.1 r q (p ∷ []) out (all_one p ar.0 h) makes) is

  pub two_given : (name : RowName) (p p' : Plain) (q : Program) (out : Plain) (args : List (Option Plain)) → row_of_two n.kind ≡ Some name → at s.args n.a ≡ Some p → at s.args n.b ≡ Some p' → Makes s.prog q n.kind (p ∷ p' ∷ []) out → args ≡ put_at s.args id out → Gives s (record { es = s.es; prog = q; args = args }) id
  two_given name p p' q out args row h k makes is =
      let ar = two_arity n.kind name row in
      gives_at s q id out args g (made_at s id n g ar.1 r q (p ∷ p' ∷ []) out (all_two p p' ar.0 h k) makes) is

-- ---- sums

module _ (s : State) (id : ℕ) (n : Node) (g : IsState s) (r : IsReady s id n) (kind : n.kind ≡ kinds.Add) where
  sum_arity : arity n.kind ≡ 2
  sum_arity = ap arity kind

  sum_own : is_own n.kind ≡ false
  sum_own = ap is_own kind

  pub have_sum : HaveTwo s n
  have_sum = two_have s id n g r sum_arity (sum_kids (extent s.es n.a) (extent s.es n.b) (subst (λ k. IsSome (extent_over k (extent s.es n.a ∷ extent s.es n.b ∷ []))) kind (known_two s id n g r sum_arity sum_own)))

  pub operands_sum : (p q : Plain) → at s.args n.a ≡ Some p → at s.args n.b ≡ Some q → AreOperands s.prog.vars kinds.Add (p ∷ q ∷ [])
  operands_sum p q h k = subst (λ j. AreOperands s.prog.vars j (p ∷ q ∷ [])) kind (operands_at s id n g sum_own r.at_id (p ∷ q ∷ []) (all_two s id n g r p q sum_arity h k))

  pub sum_given : (p p' : Plain) (q : Program) (out : Plain) (args : List (Option Plain)) → at s.args n.a ≡ Some p → at s.args n.b ≡ Some p' → Makes s.prog q kinds.Add (p ∷ p' ∷ []) out → args ≡ put_at s.args id out → Gives s (record { es = s.es; prog = q; args = args }) id
  sum_given p p' q out args h k makes is =
      gives_at s q id out args g (made_at s id n g sum_own r q (p ∷ p' ∷ []) out (all_two s id n g r p p' sum_arity h k) (subst (λ j. Makes s.prog q j (p ∷ p' ∷ []) out) (sym kind) makes)) is

no_divisor : (k : NodeKind) (e : Ends) → divides k ≡ false → HasDivisor k e
no_divisor kinds.Div e h = absurd (cc)
no_divisor kinds.Mod e h = absurd (cc)
no_divisor _ e h = tt

pub divisor_of : (vs : List Variable) (k : NodeKind) (p : Plain) → divides k ≡ false → HasDivisor k (ends_of vs p)
divisor_of vs k p h = no_divisor k (ends_of vs p) h

-- ---- what a call's result tells

pub on_ok : {X Y : Type 0} (r : Result X Y) (Q P : Type 0) → (Q → P) → OnOk r Q → IfOk r (λ x. P)
on_ok (Ok x) Q P f h = f h
on_ok (Err e) Q P f h = tt
