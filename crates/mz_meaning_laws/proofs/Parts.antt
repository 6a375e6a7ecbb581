-- A tree whose places are all of a kind has such parts, layer by layer.
use Rattle.std.proofs.Common.{ℕ, zero, suc, List, [], ◌∷◌, ◌++◌, Option, Some, None, flat_map, slice_get}
use Rattle.std.specs.List.{AllByRecursion as AllBy}
use Rattle.mz_base.specs.declared.fault.Span.{Span}
use Rattle.mz_core.specs.Types.{PlainType}
use Rattle.mz_core.specs.Program.{Function, Goal, PlainProgram}
use Rattle.mz_core.specs.Program as program
use Rattle.mz_core.specs.Tree.{Tree, Shape, Layer, Trees, Maybe, Maybes, Rows, Branches, Step, Steps, Gen, Gens, Decl, DeclaredType, Item, Items, declares, constrains, maybes, maybe, layer, shape_of, place_of, inner_tree, if_tree, all_trees, all_maybes, all_rows, all_branches, all_steps, all_gens, all_items}
use Rattle.mz_core.specs.Tree as tree
use Rattle.mz_core.specs.Nodes.{nodes_in, in_form, in_maybe, in_trees, in_maybes, in_rows, in_branches, in_steps, in_gens, in_items, in_decl, in_type}
use Rattle.mz_meaning_laws.specs.Places.{step_places, item_places, local_places, own_places, places_in, type_places, decl_places, function_places, goal_places, places_of}

-- ---- lists

pub left_all : {A : Type 0} (K : A → Type 0) (xs ys : List A) → AllBy K (xs ++ ys) → AllBy K xs
left_all K [] ys h = tt
left_all K (x ∷ xs) ys h = (h.0, left_all K xs ys h.1)

pub right_all : {A : Type 0} (K : A → Type 0) (xs ys : List A) → AllBy K (xs ++ ys) → AllBy K ys
right_all K [] ys h = h
right_all K (x ∷ xs) ys h = right_all K xs ys h.1

pub both_all : {A : Type 0} (K : A → Type 0) (xs ys : List A) → AllBy K xs → AllBy K ys → AllBy K (xs ++ ys)
both_all K [] ys h k = k
both_all K (x ∷ xs) ys h k = (h.0, both_all K xs ys h.1 k)

pub each_all : {A B : Type 0} (K : B → Type 0) (f : A → List B) (xs : List A) → AllBy K (flat_map f xs) → AllBy (λ x. AllBy K (f x)) xs
each_all K f [] h = tt
each_all K f (x ∷ xs) h = (left_all K (f x) (flat_map f xs) h, each_all K f xs (right_all K (f x) (flat_map f xs) h))

pub all_weaker : {A : Type 0} (K L : A → Type 0) (xs : List A) → ((x : A) → K x → L x) → AllBy K xs → AllBy L xs
all_weaker K L [] go h = tt
all_weaker K L (x ∷ xs) go h = (go x h.0, all_weaker K L xs go h.1)

abbrev pub OfSome : {A : Type 0} → (A → Type 0) → Option A → Type 0
OfSome K None = Unit {0}
OfSome K (Some x) = K x

pub found_all : {A : Type 0} (K : A → Type 0) (xs : List A) (k : ℕ) → AllBy K xs → OfSome K (slice_get xs k)
found_all K [] k h = tt
found_all K (x ∷ xs) zero h = h.0
found_all K (x ∷ xs) (suc k) h = found_all K xs k h.1

module _ (P : Span → Type 0) where
  abbrev pub OwnPlaces : Tree → Type 0
  OwnPlaces e = AllBy P (own_places e)

  -- all places of a tree are so
  abbrev pub IsPlaced : Tree → Type 0
  IsPlaced e = AllBy OwnPlaces (nodes_in e)

  abbrev pub ArePlaced : List Tree → Type 0
  ArePlaced es = AllBy IsPlaced es

  abbrev pub IsPlacedMaybe : Option Tree → Type 0
  IsPlacedMaybe e = OfSome IsPlaced e

  abbrev pub IsPlacedPair : Tree × Tree → Type 0
  IsPlacedPair b = IsPlaced b.0 × IsPlaced b.1

  abbrev pub IsPlacedStep : Step → Type 0
  IsPlacedStep s = P s.start × IsPlaced s.operand

  pub record IsPlacedGen (g : Gen) : Type 0 where
    pub set : IsPlaced g.set
    pub cond : IsPlacedMaybe g.cond

  pub record IsPlacedType (t : DeclaredType) : Type 0 where
    pub span : P t.span
    pub index : AllBy IsPlacedMaybe t.index
    pub set : IsPlacedMaybe t.set

  pub record IsPlacedDecl (d : Decl) : Type 0 where
    pub span : P d.span
    pub ty : IsPlacedType d.ty
    pub value : IsPlacedMaybe d.value

  abbrev pub IsPlacedItem : Item → Type 0
  IsPlacedItem (declares d) = IsPlacedDecl d
  IsPlacedItem (constrains e) = IsPlaced e

  pub record IsPlacedFunction (f : Function) : Type 0 where
    pub params : AllBy IsPlacedDecl f.params
    pub result : IsPlacedType f.result
    pub body : IsPlaced f.body

  abbrev pub IsPlacedGoal : Goal → Type 0
  IsPlacedGoal program.satisfy = Unit {0}
  IsPlacedGoal (program.minimize e) = IsPlaced e
  IsPlacedGoal (program.maximize e) = IsPlaced e

  -- ---- lists of parts

  placed_trees : (es : Trees) → AllBy OwnPlaces (in_trees es) → ArePlaced (all_trees es)
  unfolding nodes_in
  placed_trees tree.no_trees h = tt
  placed_trees (tree.a_tree e es) h = (left_all OwnPlaces (nodes_in e) (in_trees es) h, placed_trees es (right_all OwnPlaces (nodes_in e) (in_trees es) h))

  placed_maybe : (m : Maybe) → AllBy OwnPlaces (in_maybe m) → IsPlacedMaybe (if_tree m)
  unfolding nodes_in
  placed_maybe tree.nothing h = tt
  placed_maybe (tree.just e) h = h

  placed_maybes : (ms : Maybes) → AllBy OwnPlaces (in_maybes ms) → AllBy IsPlacedMaybe (all_maybes ms)
  unfolding nodes_in
  placed_maybes tree.no_maybes h = tt
  placed_maybes (tree.a_maybe m ms) h = (placed_maybe m (left_all OwnPlaces (in_maybe m) (in_maybes ms) h), placed_maybes ms (right_all OwnPlaces (in_maybe m) (in_maybes ms) h))

  placed_rows : (rs : Rows) → AllBy OwnPlaces (in_rows rs) → AllBy ArePlaced (all_rows rs)
  unfolding nodes_in
  placed_rows tree.no_rows h = tt
  placed_rows (tree.a_row r rs) h = (placed_trees r (left_all OwnPlaces (in_trees r) (in_rows rs) h), placed_rows rs (right_all OwnPlaces (in_trees r) (in_rows rs) h))

  placed_branches : (bs : Branches) → AllBy OwnPlaces (in_branches bs) → AllBy IsPlacedPair (all_branches bs)
  unfolding nodes_in
  placed_branches tree.no_branches h = tt
  placed_branches (tree.a_branch c e bs) h =
      let rest = right_all OwnPlaces (nodes_in c) (nodes_in e ++ in_branches bs) h in
      ((left_all OwnPlaces (nodes_in c) (nodes_in e ++ in_branches bs) h, left_all OwnPlaces (nodes_in e) (in_branches bs) rest), placed_branches bs (right_all OwnPlaces (nodes_in e) (in_branches bs) rest))

  pub placed_steps : (ss : Steps) → AllBy P (step_places ss) → AllBy OwnPlaces (in_steps ss) → AllBy IsPlacedStep (all_steps ss)
  unfolding nodes_in step_places
  placed_steps tree.no_steps p h = tt
  placed_steps (tree.a_step sp r t l m e ss) p h = ((p.0, left_all OwnPlaces (nodes_in e) (in_steps ss) h), placed_steps ss p.1 (right_all OwnPlaces (nodes_in e) (in_steps ss) h))

  placed_gens : (gs : Gens) → AllBy OwnPlaces (in_gens gs) → AllBy IsPlacedGen (all_gens gs)
  unfolding nodes_in
  placed_gens tree.no_gens h = tt
  placed_gens (tree.a_gen ss e m gs) h =
      let rest = right_all OwnPlaces (nodes_in e) (in_maybe m ++ in_gens gs) h in
      (record { set = left_all OwnPlaces (nodes_in e) (in_maybe m ++ in_gens gs) h; cond = placed_maybe m (left_all OwnPlaces (in_maybe m) (in_gens gs) rest) }, placed_gens gs (right_all OwnPlaces (in_maybe m) (in_gens gs) rest))

  placed_items : (is : Items) → AllBy P (item_places is) → AllBy OwnPlaces (in_items is) → AllBy IsPlacedItem (all_items is)
  unfolding nodes_in item_places
  placed_items tree.no_items p h = tt
  placed_items (tree.a_decl s n at q t ixs set value is) p h =
      let sets = right_all OwnPlaces (in_maybes ixs) (in_maybe set ++ (in_maybe value ++ in_items is)) h in
      let values = right_all OwnPlaces (in_maybe set) (in_maybe value ++ in_items is) sets in (
        record {
          span = p.0;
          ty = record {
            span = p.1.0;
            index = placed_maybes ixs (left_all OwnPlaces (in_maybes ixs) (in_maybe set ++ (in_maybe value ++ in_items is)) h);
            set = placed_maybe set (left_all OwnPlaces (in_maybe set) (in_maybe value ++ in_items is) sets);
          };
          value = placed_maybe value (left_all OwnPlaces (in_maybe value) (in_items is) values);
        },
        placed_items is p.1.1 (right_all OwnPlaces (in_maybe value) (in_items is) values),
      )
  placed_items (tree.a_constraint e is) p h = (left_all OwnPlaces (nodes_in e) (in_items is) h, placed_items is p (right_all OwnPlaces (nodes_in e) (in_items is) h))

  -- ---- one layer

  abbrev pub IsPlacedLayer : Layer → Type 0
  IsPlacedLayer (tree.chain_form e ss) = IsPlaced e × AllBy IsPlacedStep ss
  IsPlacedLayer (tree.builtin_form n es) = ArePlaced es
  IsPlacedLayer (tree.call_form f es) = ArePlaced es
  IsPlacedLayer (tree.access_form e es) = IsPlaced e × ArePlaced es
  IsPlacedLayer (tree.array_form es) = ArePlaced es
  IsPlacedLayer (tree.rows_form rs) = AllBy ArePlaced rs
  IsPlacedLayer (tree.set_form es) = ArePlaced es
  IsPlacedLayer (tree.comp_form b e gs) = IsPlaced e × AllBy IsPlacedGen gs
  IsPlacedLayer (tree.if_form bs e) = AllBy IsPlacedPair bs × IsPlacedMaybe e
  IsPlacedLayer (tree.let_form is e) = AllBy IsPlacedItem is × IsPlaced e
  IsPlacedLayer l = Unit {0}

  placed_form : (f : Shape) → AllBy P (local_places f) → AllBy OwnPlaces (in_form f) → IsPlacedLayer (layer f)
  unfolding nodes_in
  placed_form (tree.chain e ss) p h = (left_all OwnPlaces (nodes_in e) (in_steps ss) h, placed_steps ss p (right_all OwnPlaces (nodes_in e) (in_steps ss) h))
  placed_form (tree.builtin n es) p h = placed_trees es h
  placed_form (tree.call f es) p h = placed_trees es h
  placed_form (tree.access e es) p h = (left_all OwnPlaces (nodes_in e) (in_trees es) h, placed_trees es (right_all OwnPlaces (nodes_in e) (in_trees es) h))
  placed_form (tree.array es) p h = placed_trees es h
  placed_form (tree.rows rs) p h = placed_rows rs h
  placed_form (tree.set es) p h = placed_trees es h
  placed_form (tree.comp b e gs) p h = (left_all OwnPlaces (nodes_in e) (in_gens gs) h, placed_gens gs (right_all OwnPlaces (nodes_in e) (in_gens gs) h))
  placed_form (tree.choice bs e) p h = (placed_branches bs (left_all OwnPlaces (in_branches bs) (in_maybe e) h), placed_maybe e (right_all OwnPlaces (in_branches bs) (in_maybe e) h))
  placed_form (tree.let_in is e) p h = (placed_items is p (left_all OwnPlaces (in_items is) (nodes_in e) h), right_all OwnPlaces (in_items is) (nodes_in e) h)
  placed_form f p h = tt

  pub placed_layer : (e : Tree) → IsPlaced e → IsPlacedLayer (layer (shape_of e))
  unfolding nodes_in
  placed_layer (tree.node at t f) h = placed_form f h.0.1 h.1

  pub place_placed : (e : Tree) → IsPlaced e → P (place_of e)
  unfolding nodes_in
  place_placed (tree.node at t f) h = h.0.0

  mutual
    unfolding nodes_in

    pub inner_placed : (e : Tree) → IsPlaced e → IsPlaced (inner_tree e)
    inner_placed (tree.node at t f) h = inner_under_placed at t f h

    inner_under_placed : (at : Span) (t : PlainType) (f : Shape) → IsPlaced (tree.node at t f) → IsPlaced (tree.inner_under at t f)
    inner_under_placed at t (tree.coerce c e) h = inner_placed e h.1
    inner_under_placed at t f h = h

  -- ---- what stands in a program

  pub tree_placed : (e : Tree) → AllBy P (places_in e) → IsPlaced e
  tree_placed e h = each_all P own_places (nodes_in e) h

  set_placed : (e : Option Tree) → AllBy OwnPlaces (in_maybe (maybe e)) → IsPlacedMaybe e
  unfolding nodes_in
  set_placed None h = tt
  set_placed (Some e) h = h

  sets_placed : (es : List (Option Tree)) → AllBy OwnPlaces (in_maybes (maybes es)) → AllBy IsPlacedMaybe es
  unfolding nodes_in
  sets_placed [] h = tt
  sets_placed (e ∷ es) h = (set_placed e (left_all OwnPlaces (in_maybe (maybe e)) (in_maybes (maybes es)) h), sets_placed es (right_all OwnPlaces (in_maybe (maybe e)) (in_maybes (maybes es)) h))

  type_placed : (t : DeclaredType) → AllBy P (type_places t) → IsPlacedType t
  type_placed t h =
      let all = each_all P own_places (in_type t) h.1 in
      record {
        span = h.0;
        index = sets_placed t.index (left_all OwnPlaces (in_maybes (maybes t.index)) (in_maybe (maybe t.set)) all);
        set = set_placed t.set (right_all OwnPlaces (in_maybes (maybes t.index)) (in_maybe (maybe t.set)) all);
      }

  pub decl_placed : (d : Decl) → AllBy P (decl_places d) → IsPlacedDecl d
  unfolding nodes_in
  decl_placed d h =
      let all = each_all P own_places (in_decl d) h.1.1 in
      let sets = right_all OwnPlaces (in_maybes (maybes d.ty.index)) (in_maybe (maybe d.ty.set) ++ (in_maybe (maybe d.value) ++ [])) all in
      record {
        span = h.0;
        ty = record {
          span = h.1.0;
          index = sets_placed d.ty.index (left_all OwnPlaces (in_maybes (maybes d.ty.index)) (in_maybe (maybe d.ty.set) ++ (in_maybe (maybe d.value) ++ [])) all);
          set = set_placed d.ty.set (left_all OwnPlaces (in_maybe (maybe d.ty.set)) (in_maybe (maybe d.value) ++ []) sets);
        };
        value = set_placed d.value (left_all OwnPlaces (in_maybe (maybe d.value)) [] (right_all OwnPlaces (in_maybe (maybe d.ty.set)) (in_maybe (maybe d.value) ++ []) sets));
      }

  pub function_placed : (f : Function) → AllBy P (function_places f) → IsPlacedFunction f
  function_placed f h =
      let rest = right_all P (flat_map decl_places f.params) (type_places f.result ++ places_in f.body) h.1 in
      record {
        params = all_weaker (λ d. AllBy P (decl_places d)) IsPlacedDecl f.params decl_placed (each_all P decl_places f.params (left_all P (flat_map decl_places f.params) (type_places f.result ++ places_in f.body) h.1));
        result = type_placed f.result (left_all P (type_places f.result) (places_in f.body) rest);
        body = tree_placed f.body (right_all P (type_places f.result) (places_in f.body) rest);
      }

  pub functions_placed : (fs : List Function) → AllBy P (flat_map function_places fs) → AllBy IsPlacedFunction fs
  functions_placed fs h = all_weaker (λ f. AllBy P (function_places f)) IsPlacedFunction fs function_placed (each_all P function_places fs h)

  trees_placed : (es : List Tree) → AllBy P (flat_map places_in es) → ArePlaced es
  trees_placed es h = all_weaker (λ e. AllBy P (places_in e)) IsPlaced es tree_placed (each_all P places_in es h)

  goal_placed : (g : Goal) → AllBy P (goal_places g) → IsPlacedGoal g
  goal_placed program.satisfy h = tt
  goal_placed (program.minimize e) h = tree_placed e h
  goal_placed (program.maximize e) h = tree_placed e h

  -- all places of a program are so
  pub record IsPlacedProgram (p : PlainProgram) : Type 0 where
    pub decls : AllBy IsPlacedDecl p.decls
    pub functions : AllBy IsPlacedFunction p.functions
    pub constraints : ArePlaced p.constraints
    pub goal : IsPlacedGoal p.goal
    pub outputs : ArePlaced p.outputs

  pub program_placed : (p : PlainProgram) → AllBy P (places_of p) → IsPlacedProgram p
  unfolding places_of
  program_placed p h =
      let more = right_all P (flat_map decl_places p.decls) (flat_map function_places p.functions ++ (flat_map places_in p.constraints ++ (goal_places p.goal ++ flat_map places_in p.outputs))) h in
      let still = right_all P (flat_map function_places p.functions) (flat_map places_in p.constraints ++ (goal_places p.goal ++ flat_map places_in p.outputs)) more in
      let last = right_all P (flat_map places_in p.constraints) (goal_places p.goal ++ flat_map places_in p.outputs) still in
      record {
        decls = all_weaker (λ d. AllBy P (decl_places d)) IsPlacedDecl p.decls decl_placed
            (each_all P decl_places p.decls (left_all P (flat_map decl_places p.decls) (flat_map function_places p.functions ++ (flat_map places_in p.constraints ++ (goal_places p.goal ++ flat_map places_in p.outputs))) h));
        functions = functions_placed p.functions (left_all P (flat_map function_places p.functions) (flat_map places_in p.constraints ++ (goal_places p.goal ++ flat_map places_in p.outputs)) more);
        constraints = trees_placed p.constraints (left_all P (flat_map places_in p.constraints) (goal_places p.goal ++ flat_map places_in p.outputs) still);
        goal = goal_placed p.goal (left_all P (goal_places p.goal) (flat_map places_in p.outputs) last);
        outputs = trees_placed p.outputs (right_all P (goal_places p.goal) (flat_map places_in p.outputs) last);
      }
