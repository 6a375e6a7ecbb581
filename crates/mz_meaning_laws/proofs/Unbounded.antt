-- The names of declarations without a bound are places of the program.
use Rattle.std.proofs.Common.{Bool, true, false, List, [], ◌∷◌, ◌++◌, Option, Some, None, flat_map, if◌then◌else◌}
use Rattle.std.specs.List.{AllByRecursion as AllBy}
use Rattle.mz_base.specs.declared.fault.Span.{Span}
use Rattle.mz_core.specs.Program.{Function, Goal, PlainProgram}
use Rattle.mz_core.specs.Program as program
use Rattle.mz_core.specs.Tree.{Tree, Shape, Trees, Maybe, Maybes, Rows, Branches, Steps, Gens, Items, Decl, maybes, maybe}
use Rattle.mz_core.specs.Tree as tree
use Rattle.mz_core.specs.Nodes as nodes
use Rattle.mz_core.specs.Nodes.{nodes_in}
use Rattle.mz_meaning.specs.Unbounded.{only_if, is_unbounded, unbounded_in, in_form, in_maybe, in_trees, in_maybes, in_rows, in_branches, in_steps, in_gens, in_items, in_decl, in_sets, in_function, in_goal, all_unbounded, stands_before, first_from, first_of, first_unbounded}
use Rattle.mz_meaning_laws.specs.Places.{item_places, local_places}
use Rattle.mz_meaning_laws.proofs.Parts.{OfSome, left_all, right_all, both_all, OwnPlaces, IsPlaced, IsPlacedMaybe, IsPlacedDecl, IsPlacedFunction, IsPlacedGoal, IsPlacedProgram}

module _ (P : Span → Type 0) where
  one_placed : (b : Bool) (at : Span) → P at → AllBy P (only_if b at)
  one_placed true at p = (p, tt)
  one_placed false at p = tt

  -- two parts, one after the other
  joined : (xs ys : List Tree) (ps qs : List Span) → (AllBy (OwnPlaces P) xs → AllBy P ps) → (AllBy (OwnPlaces P) ys → AllBy P qs) → AllBy (OwnPlaces P) (xs ++ ys) → AllBy P (ps ++ qs)
  joined xs ys ps qs f g h = both_all P ps qs (f (left_all (OwnPlaces P) xs ys h)) (g (right_all (OwnPlaces P) xs ys h))

  mutual
    unfolding nodes_in unbounded_in item_places

    pub unbounded_placed : (e : Tree) → AllBy (OwnPlaces P) (nodes_in e) → AllBy P (unbounded_in e)
    unbounded_placed (tree.node at t form) h = form_placed form h.0.1 h.1

    form_placed : (f : Shape) → AllBy P (local_places f) → AllBy (OwnPlaces P) (nodes.in_form f) → AllBy P (in_form f)
    form_placed (tree.chain e ss) p h = joined (nodes_in e) (nodes.in_steps ss) (unbounded_in e) (in_steps ss) (unbounded_placed e) (steps_placed ss) h
    form_placed (tree.builtin n es) p h = trees_placed es h
    form_placed (tree.call f es) p h = trees_placed es h
    form_placed (tree.access e es) p h = joined (nodes_in e) (nodes.in_trees es) (unbounded_in e) (in_trees es) (unbounded_placed e) (trees_placed es) h
    form_placed (tree.array es) p h = trees_placed es h
    form_placed (tree.rows rs) p h = rows_placed rs h
    form_placed (tree.set es) p h = trees_placed es h
    form_placed (tree.comp b e gs) p h = joined (nodes_in e) (nodes.in_gens gs) (unbounded_in e) (in_gens gs) (unbounded_placed e) (gens_placed gs) h
    form_placed (tree.choice bs e) p h = joined (nodes.in_branches bs) (nodes.in_maybe e) (in_branches bs) (in_maybe e) (branches_placed bs) (maybe_placed e) h
    form_placed (tree.let_in is e) p h = joined (nodes.in_items is) (nodes_in e) (in_items is) (unbounded_in e) (items_placed is p) (unbounded_placed e) h
    form_placed (tree.coerce c e) p h = unbounded_placed e h
    form_placed f p h = tt

    maybe_placed : (m : Maybe) → AllBy (OwnPlaces P) (nodes.in_maybe m) → AllBy P (in_maybe m)
    maybe_placed tree.nothing h = tt
    maybe_placed (tree.just e) h = unbounded_placed e h

    trees_placed : (es : Trees) → AllBy (OwnPlaces P) (nodes.in_trees es) → AllBy P (in_trees es)
    trees_placed tree.no_trees h = tt
    trees_placed (tree.a_tree e es) h = joined (nodes_in e) (nodes.in_trees es) (unbounded_in e) (in_trees es) (unbounded_placed e) (trees_placed es) h

    maybes_placed : (ms : Maybes) → AllBy (OwnPlaces P) (nodes.in_maybes ms) → AllBy P (in_maybes ms)
    maybes_placed tree.no_maybes h = tt
    maybes_placed (tree.a_maybe m ms) h = joined (nodes.in_maybe m) (nodes.in_maybes ms) (in_maybe m) (in_maybes ms) (maybe_placed m) (maybes_placed ms) h

    rows_placed : (rs : Rows) → AllBy (OwnPlaces P) (nodes.in_rows rs) → AllBy P (in_rows rs)
    rows_placed tree.no_rows h = tt
    rows_placed (tree.a_row r rs) h = joined (nodes.in_trees r) (nodes.in_rows rs) (in_trees r) (in_rows rs) (trees_placed r) (rows_placed rs) h

    branches_placed : (bs : Branches) → AllBy (OwnPlaces P) (nodes.in_branches bs) → AllBy P (in_branches bs)
    branches_placed tree.no_branches h = tt
    branches_placed (tree.a_branch c e bs) h =
        joined (nodes_in c) (nodes_in e ++ nodes.in_branches bs) (unbounded_in c) (unbounded_in e ++ in_branches bs) (unbounded_placed c) (joined (nodes_in e) (nodes.in_branches bs) (unbounded_in e) (in_branches bs) (unbounded_placed e) (branches_placed bs)) h

    steps_placed : (ss : Steps) → AllBy (OwnPlaces P) (nodes.in_steps ss) → AllBy P (in_steps ss)
    steps_placed tree.no_steps h = tt
    steps_placed (tree.a_step sp r t l m e ss) h = joined (nodes_in e) (nodes.in_steps ss) (unbounded_in e) (in_steps ss) (unbounded_placed e) (steps_placed ss) h

    gens_placed : (gs : Gens) → AllBy (OwnPlaces P) (nodes.in_gens gs) → AllBy P (in_gens gs)
    gens_placed tree.no_gens h = tt
    gens_placed (tree.a_gen ss e m gs) h =
        joined (nodes_in e) (nodes.in_maybe m ++ nodes.in_gens gs) (unbounded_in e) (in_maybe m ++ in_gens gs) (unbounded_placed e) (joined (nodes.in_maybe m) (nodes.in_gens gs) (in_maybe m) (in_gens gs) (maybe_placed m) (gens_placed gs)) h

    items_placed : (is : Items) → AllBy P (item_places is) → AllBy (OwnPlaces P) (nodes.in_items is) → AllBy P (in_items is)
    items_placed tree.no_items p h = tt
    items_placed (tree.a_decl s n at q t ixs set value is) p h =
        both_all P (only_if (is_unbounded t ixs set value) at) (in_maybes ixs ++ (in_maybe set ++ (in_maybe value ++ in_items is))) (one_placed (is_unbounded t ixs set value) at p.0)
        (joined (nodes.in_maybes ixs) (nodes.in_maybe set ++ (nodes.in_maybe value ++ nodes.in_items is)) (in_maybes ixs) (in_maybe set ++ (in_maybe value ++ in_items is)) (maybes_placed ixs)
        (joined (nodes.in_maybe set) (nodes.in_maybe value ++ nodes.in_items is) (in_maybe set) (in_maybe value ++ in_items is) (maybe_placed set) (joined (nodes.in_maybe value) (nodes.in_items is) (in_maybe value) (in_items is) (maybe_placed value) (items_placed is p.1.1)))
        h)
    items_placed (tree.a_constraint e is) p h = joined (nodes_in e) (nodes.in_items is) (unbounded_in e) (in_items is) (unbounded_placed e) (items_placed is p) h

  -- ---- what stands in a program

  if_placed : (e : Option Tree) → IsPlacedMaybe P e → AllBy P (in_maybe (maybe e))
  unfolding unbounded_in
  if_placed None h = tt
  if_placed (Some e) h = unbounded_placed e h

  sets_placed : (es : List (Option Tree)) → AllBy (IsPlacedMaybe P) es → AllBy P (in_maybes (maybes es))
  unfolding unbounded_in
  sets_placed [] h = tt
  sets_placed (e ∷ es) h = both_all P (in_maybe (maybe e)) (in_maybes (maybes es)) (if_placed e h.0) (sets_placed es h.1)

  decl_unbounded : (d : Decl) → IsPlacedDecl P d → AllBy P (in_decl d)
  unfolding unbounded_in
  decl_unbounded d h =
      both_all P (only_if (is_unbounded d.ty.ty (maybes d.ty.index) (maybe d.ty.set) (maybe d.value)) d.span) (in_maybes (maybes d.ty.index) ++ (in_maybe (maybe d.ty.set) ++ (in_maybe (maybe d.value) ++ []))) (one_placed (is_unbounded d.ty.ty (maybes d.ty.index) (maybe d.ty.set) (maybe d.value)) d.span h.span)
      (both_all P (in_maybes (maybes d.ty.index)) (in_maybe (maybe d.ty.set) ++ (in_maybe (maybe d.value) ++ [])) (sets_placed d.ty.index h.ty.index)
      (both_all P (in_maybe (maybe d.ty.set)) (in_maybe (maybe d.value) ++ []) (if_placed d.ty.set h.ty.set) (both_all P (in_maybe (maybe d.value)) [] (if_placed d.value h.value) tt)))

  param_unbounded : (d : Decl) → IsPlacedDecl P d → AllBy P (in_sets d)
  param_unbounded d h = both_all P (in_maybes (maybes d.ty.index)) (in_maybe (maybe d.ty.set)) (sets_placed d.ty.index h.ty.index) (if_placed d.ty.set h.ty.set)

  mapped : {A : Type 0} (K : A → Type 0) (f : A → List Span) → ((x : A) → K x → AllBy P (f x)) → (xs : List A) → AllBy K xs → AllBy P (flat_map f xs)
  mapped K f go [] h = tt
  mapped K f go (x ∷ xs) h = both_all P (f x) (flat_map f xs) (go x h.0) (mapped K f go xs h.1)

  function_unbounded : (f : Function) → IsPlacedFunction P f → AllBy P (in_function f)
  function_unbounded f h =
      both_all P (flat_map in_sets f.params) (in_maybes (maybes f.result.index) ++ (in_maybe (maybe f.result.set) ++ unbounded_in f.body)) (mapped (IsPlacedDecl P) in_sets param_unbounded f.params h.params)
      (both_all P (in_maybes (maybes f.result.index)) (in_maybe (maybe f.result.set) ++ unbounded_in f.body) (sets_placed f.result.index h.result.index)
      (both_all P (in_maybe (maybe f.result.set)) (unbounded_in f.body) (if_placed f.result.set h.result.set) (unbounded_placed f.body h.body)))

  goal_unbounded : (g : Goal) → IsPlacedGoal P g → AllBy P (in_goal g)
  goal_unbounded program.satisfy h = tt
  goal_unbounded (program.minimize e) h = unbounded_placed e h
  goal_unbounded (program.maximize e) h = unbounded_placed e h

  all_placed : (p : PlainProgram) → IsPlacedProgram P p → AllBy P (all_unbounded p)
  all_placed p h =
      both_all P (flat_map in_decl p.decls) (flat_map in_function p.functions ++ (flat_map unbounded_in p.constraints ++ (in_goal p.goal ++ flat_map unbounded_in p.outputs))) (mapped (IsPlacedDecl P) in_decl decl_unbounded p.decls h.decls)
      (both_all P (flat_map in_function p.functions) (flat_map unbounded_in p.constraints ++ (in_goal p.goal ++ flat_map unbounded_in p.outputs)) (mapped (IsPlacedFunction P) in_function function_unbounded p.functions h.functions)
      (both_all P (flat_map unbounded_in p.constraints) (in_goal p.goal ++ flat_map unbounded_in p.outputs) (mapped (IsPlaced P) unbounded_in unbounded_placed p.constraints h.constraints)
      (both_all P (in_goal p.goal) (flat_map unbounded_in p.outputs) (goal_unbounded p.goal h.goal) (mapped (IsPlaced P) unbounded_in unbounded_placed p.outputs h.outputs))))

  -- ---- the first of them

  earlier_placed : (b : Bool) (a c : Span) → P a → P c → P (if b then a else c)
  earlier_placed true a c h k = h
  earlier_placed false a c h k = k

  from_placed : (a : Span) (ps : List Span) → P a → AllBy P ps → P (first_from a ps)
  from_placed a [] h k = h
  from_placed a (b ∷ ps) h k = from_placed (if stands_before b a then b else a) ps (earlier_placed (stands_before b a) b a k.0 h) k.1

  first_placed : (ps : List Span) → AllBy P ps → OfSome P (first_of ps)
  first_placed [] h = tt
  first_placed (a ∷ ps) h = from_placed a ps h.0 h.1

  pub first_unbounded_placed : (p : PlainProgram) → IsPlacedProgram P p → OfSome P (first_unbounded p)
  unfolding first_unbounded
  first_unbounded_placed p h = first_placed (all_unbounded p) (all_placed p h)
