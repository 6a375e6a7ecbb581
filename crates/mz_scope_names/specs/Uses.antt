-- The names outside that a tree uses. A local name hides an outer one: each function takes the names that are hidden at its place.
use Rattle.std.specs.Prelude.{◌≡◌, List, [], ◌∷◌, ◌++◌, Bool, true, false, if◌then◌else◌, refl}
use Rattle.mz_base.specs.declared.fault.Span.{Span}
use Rattle.mz_tree.specs.Tree as pure
use Rattle.mz_tree.specs.Tree.{Name, Tree, Shape, Maybe, Trees, Links, Rows, Branches, Part, Parts, Generator, Gens, Let, Lets, Declaration, Written, Based, Dims, Bases}
use Rattle.mz_scope_names.specs.Sets.{holds, with_name}
use Rattle.mz_scope_names.specs.declared.name_use.NameUse.{NameUse}
use Rattle.mz_scope_names.specs.declared.name_use.NameUse.TheVariants.{Mention, Call}

-- a bare name, where no local name hides it
abbrev pub mention : List Name → Name → List NameUse
mention h n = if holds n h then [] else Mention n ∷ []

abbrev pub is_empty : Trees → Bool
is_empty pure.no_trees = true
is_empty (pure.a_tree e es) = false

-- a name before brackets: `f()` is the same as `f`, and functions with parameters have a space of their own, in which no local
-- name hides
abbrev pub applied : List Name → Name → Bool → List NameUse
applied h n true = mention h n
applied h n false = Call n ∷ []

-- the names that are hidden after these names are bound
unfoldable pub with_bound : List Name → List (Name × Span) → List Name
with_bound h [] = h
with_bound h (n ∷ ns) = with_bound (with_name h n.0) ns

-- after a generator, which binds its names
abbrev pub with_generator : List Name → Generator → List Name
with_generator h (pure.generator ns e c) = with_bound h ns

unfoldable pub with_gens : List Name → Gens → List Name
with_gens h pure.no_gens = h
with_gens h (pure.a_gen g gs) = with_gens (with_generator h g) gs

abbrev pub with_declaration : List Name → Declaration → List Name
with_declaration h (pure.declaration t n s e) = with_name h n

-- after an item of a `let`: a name is bound from its own item's end on
abbrev pub with_let : List Name → Let → List Name
with_let h (pure.declared d) = with_declaration h d
with_let h (pure.constrained e) = h

unfoldable pub with_lets : List Name → Lets → List Name
with_lets h pure.no_lets = h
with_lets h (pure.a_let l ls) = with_lets (with_let h l) ls

unfoldable mutual
  -- what an expression uses, where these names are hidden
  pub in_tree : List Name → Tree → List NameUse
  in_tree h (pure.node s f) = in_shape h f

  pub in_shape : List Name → Shape → List NameUse
  in_shape h (pure.int z) = []
  in_shape h (pure.bool b) = []
  in_shape h pure.absent = []
  in_shape h (pure.text n) = []
  in_shape h (pure.ident n) = mention h n
  in_shape h (pure.interp ps) = in_parts h ps
  in_shape h (pure.unary op e) = in_tree h e
  in_shape h (pure.chain e ls) = in_tree h e ++ in_links h ls
  in_shape h (pure.call n es) = applied h n (is_empty es) ++ in_trees h es
  in_shape h (pure.gen_call n gs e) = Call n ∷ (in_gens h gs ++ in_tree (with_gens h gs) e)
  in_shape h (pure.access e es) = in_tree h e ++ in_trees h es
  in_shape h (pure.array es) = in_trees h es
  in_shape h (pure.rows rs) = in_rows h rs
  in_shape h (pure.set es) = in_trees h es
  in_shape h (pure.array_comp e gs) = in_gens h gs ++ in_tree (with_gens h gs) e
  in_shape h (pure.set_comp e gs) = in_gens h gs ++ in_tree (with_gens h gs) e
  in_shape h (pure.choice bs e) = in_branches h bs ++ in_maybe h e
  in_shape h (pure.let_in ls e) = in_lets h ls ++ in_tree (with_lets h ls) e
  in_shape h pure.whole = []

  pub in_maybe : List Name → Maybe → List NameUse
  in_maybe h pure.nothing = []
  in_maybe h (pure.just e) = in_tree h e

  pub in_trees : List Name → Trees → List NameUse
  in_trees h pure.no_trees = []
  in_trees h (pure.a_tree e es) = in_tree h e ++ in_trees h es

  pub in_links : List Name → Links → List NameUse
  in_links h pure.no_links = []
  in_links h (pure.a_link op e ls) = in_tree h e ++ in_links h ls

  pub in_rows : List Name → Rows → List NameUse
  in_rows h pure.no_rows = []
  in_rows h (pure.a_row r rs) = in_trees h r ++ in_rows h rs

  pub in_branches : List Name → Branches → List NameUse
  in_branches h pure.no_branches = []
  in_branches h (pure.a_branch c e bs) = (in_tree h c ++ in_tree h e) ++ in_branches h bs

  pub in_part : List Name → Part → List NameUse
  in_part h (pure.plain n) = []
  in_part h (pure.shown e) = in_tree h e

  pub in_parts : List Name → Parts → List NameUse
  in_parts h pure.no_parts = []
  in_parts h (pure.a_part p ps) = in_part h p ++ in_parts h ps

  -- a generator's set is outside of its names, its condition is not
  pub in_generator : List Name → Generator → List NameUse
  in_generator h (pure.generator ns e c) = in_tree h e ++ in_maybe (with_bound h ns) c

  pub in_gens : List Name → Gens → List NameUse
  in_gens h pure.no_gens = []
  in_gens h (pure.a_gen g gs) = in_generator h g ++ in_gens (with_generator h g) gs

  pub in_let : List Name → Let → List NameUse
  in_let h (pure.declared d) = in_declaration h d
  in_let h (pure.constrained e) = in_tree h e

  pub in_lets : List Name → Lets → List NameUse
  in_lets h pure.no_lets = []
  in_lets h (pure.a_let l ls) = in_let h l ++ in_lets (with_let h l) ls

  pub in_declaration : List Name → Declaration → List NameUse
  in_declaration h (pure.declaration t n s e) = in_written h t ++ in_maybe h e

  pub in_written : List Name → Written → List NameUse
  in_written h (pure.written s ds var opt set b) = in_dims h ds ++ in_based h b

  pub in_based : List Name → Based → List NameUse
  in_based h pure.base_bool = []
  in_based h pure.base_int = []
  in_based h (pure.base_of e) = in_tree h e

  pub in_dims : List Name → Dims → List NameUse
  in_dims h pure.no_array = []
  in_dims h (pure.array_of bs) = in_bases h bs

  pub in_bases : List Name → Bases → List NameUse
  in_bases h pure.no_bases = []
  in_bases h (pure.a_base b bs) = in_based h b ++ in_bases h bs

-- `x`, `x()` and `x(y)`
pub of_a_name : (s : Span) → in_tree [] (pure.node s (pure.ident 0)) ≡ Mention 0 ∷ []
unfolding in_tree
of_a_name s = refl

pub of_a_hidden_name : (s : Span) → in_tree (0 ∷ []) (pure.node s (pure.ident 0)) ≡ []
unfolding in_tree
of_a_hidden_name s = refl

pub of_empty_brackets : (s : Span) → in_tree (1 ∷ []) (pure.node s (pure.call 1 pure.no_trees)) ≡ []
unfolding in_tree
of_empty_brackets s = refl

pub of_a_call : (s t : Span) → in_tree (0 ∷ []) (pure.node s (pure.call 0 (pure.trees (pure.node t (pure.ident 1) ∷ [])))) ≡ Call 0 ∷ Mention 1 ∷ []
unfolding in_tree
of_a_call s t = refl

-- `[i | i in i]`: the set mentions the outer name
pub of_a_comprehension : (r s t u : Span) → in_tree [] (pure.node r (pure.array_comp (pure.node s (pure.ident 0)) (pure.gens (pure.generator ((0, t) ∷ []) (pure.node u (pure.ident 0)) pure.nothing ∷ [])))) ≡ Mention 0 ∷ []
unfolding in_tree with_bound with_gens
of_a_comprehension r s t u = refl

-- `let { int: a = a } in a`: the value mentions the outer name
pub of_a_let : (q r s t u : Span) → in_tree [] (pure.node q (pure.let_in (pure.lets (pure.declared (pure.declaration (pure.written r pure.no_array false false false pure.base_int) 0 s (pure.just (pure.node t (pure.ident 0)))) ∷ [])) (pure.node u (pure.ident 0)))) ≡ Mention 0 ∷ []
unfolding in_tree with_lets
of_a_let q r s t u = refl
