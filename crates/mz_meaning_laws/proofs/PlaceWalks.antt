-- The walk over a program whose places are all of a kind stops at such places.
use Rattle.std.proofs.Common.{ℕ, pos, Bool, true, false, List, [], ◌∷◌, ◌++◌, Option, Some, None, flat_map, slice_get, ◌<◌}
use Rattle.std.specs.List.{AllByRecursion as AllBy, Contains}
use Rattle.std.proofs.lemmas.List.Elements.{recursion_from_All, Contains-get_or}
use Rattle.mz_base.specs.declared.fault.Span.{Span}
use Rattle.mz_base.specs.declared.kind.Kind.TheVariants as kind
use Rattle.mz_value.specs.Ranges.{Range}
use Rattle.mz_core.specs.Program.{Goal, PlainProgram}
use Rattle.mz_core.specs.Program as program
use Rattle.mz_core.specs.Tree.{Tree, Decl, place_of}
use Rattle.mz_meaning.specs.Runs.{Run, State, Answer, Out, Stopped, loop}
use Rattle.mz_meaning.specs.Cells.{Cell, Mode, Env, undefined, set_in}
use Rattle.mz_meaning.specs.Arrays.{Want, suits, declared_count}
use Rattle.mz_meaning.specs.Contexts.{Context}
use Rattle.mz_meaning.specs.Forms.{World, Eval}
use Rattle.mz_meaning.specs.Evaluation.{eval}
use Rattle.mz_meaning.specs.Unbounded.{first_unbounded}
use Rattle.mz_meaning.specs.Walk as walks
use Rattle.mz_meaning.specs.Walk.{Limits, Assignment, Declared, levels, names_env, world_at, with_decl, ordered, surely, walk}
use Rattle.mz_meaning_laws.specs.Places.{places_in, function_places, places_of}
use Rattle.mz_meaning_laws.specs.Stopping.{StopsAmong}
use Rattle.mz_meaning_laws.proofs.Parts.{OfSome, left_all, right_all, found_all, IsPlaced, IsPlacedMaybe, IsPlacedDecl, IsPlacedGoal, IsPlacedProgram, place_placed, tree_placed, functions_placed, program_placed}
use Rattle.mz_meaning_laws.proofs.Stopping.{StopsAt, StopsThere, then_there, give_there, stop_there, spend_there, loop_there, weigh_there, contiguous_there, fitted_there}
use Rattle.mz_meaning_laws.proofs.PlaceForms.{StopsInTrees, eval_there}
use Rattle.mz_meaning_laws.proofs.Unbounded.{first_unbounded_placed}

module _ (P : Span → Type 0) where
  -- ---- declarations

  defined_set_there : (at : Span) (s : Option (List Range)) → P at → StopsThere P (walks.defined_set at s)
  defined_set_there at None p = stop_there P kind.ParUndefined at (pos 0) p
  defined_set_there at (Some s) p = give_there P _

  defined_index_there : (at : Span) (s : Option (List Range)) → P at → StopsThere P (walks.defined_index at s)
  defined_index_there at None p = stop_there P kind.ParUndefined at (pos 0) p
  defined_index_there at (Some s) p = contiguous_there P at (Some s) p

  set_want_there : (go : Eval) → StopsInTrees P go → (ctx : Context) (test : Span → Option (List Range) → Run Want) → ((at : Span) (s : Option (List Range)) → P at → StopsThere P (test at s)) → (e : Option Tree) (env : Env) → IsPlacedMaybe P e → StopsThere P (walks.set_want go ctx test e env)
  set_want_there go g ctx test t None env h = give_there P _
  set_want_there go g ctx test t (Some e) env h = then_there P (g.by ctx e env h) (λ c. t (place_of e) (set_in c) (place_placed P e h))

  index_sets_there : (go : Eval) → StopsInTrees P go → (ctx : Context) (es : List (Option Tree)) (env : Env) → AllBy (IsPlacedMaybe P) es → StopsThere P (loop (walks.one_index go ctx env) [] es)
  index_sets_there go g ctx es env h = loop_there P (IsPlacedMaybe P) (walks.one_index go ctx env) (λ acc e k. then_there P (set_want_there go g ctx walks.defined_index defined_index_there e env k) (λ x. give_there P _)) [] es h

  par_name_there : (at : Span) (d : Decl) (c : Cell) (b : Bool) → P at → StopsThere P (walks.par_name at d c b)
  par_name_there at d c true p = give_there P _
  par_name_there at d c false p = stop_there P kind.ParUndefined at (pos 0) p

  valued_there : (m : Mode) (a : Assignment) (at : Span) (d : Decl) (ixs : List Want) (x : Want) (var : Bool) (c : Cell) → P at → StopsThere P (walks.valued m a at d ixs x var c)
  valued_there m a at d ixs x true c p = give_there P _
  valued_there m a at d ixs x false c p = par_name_there at d c (surely (suits x c)) p

  declare_value_there : (w : World) (go : Eval) → StopsInTrees P go → (ctx : Context) (a : Assignment) (d : Decl) (ixs : List Want) (x : Want) (env : Env) (e : Option Tree) → P d.span → IsPlacedMaybe P e → StopsThere P (walks.declare_value w go ctx a d ixs x env e)
  declare_value_there w go g ctx a d ixs x env None p h = then_there P (spend_there P w.budget d.span (declared_count ixs undefined) p) (λ u. give_there P _)
  declare_value_there w go g ctx a d ixs x env (Some e) p h =
      then_there P (g.by ctx e env h) (λ c. then_there P (spend_there P w.budget d.span (declared_count ixs c) p)
      (λ u. then_there P (fitted_there P (place_of e) ixs c (place_placed P e h)) (λ f. valued_there w.mode a (place_of e) d ixs x d.ty.ty.var f (place_placed P e h))))

  declare_in_there : (w : World) (go : Eval) → StopsInTrees P go → (ctx : Context) (a : Assignment) (d : Decl) (env : Env) → IsPlacedDecl P d → StopsThere P (walks.declare_in w go ctx a d env)
  declare_in_there w go g ctx a d env h =
      then_there P (weigh_there P w.mode 1) (λ v. then_there P (index_sets_there go g ctx d.ty.index env h.ty.index)
      (λ ixs. then_there P (set_want_there go g ctx walks.defined_set defined_set_there d.ty.set env h.ty.set) (λ x. declare_value_there w go g ctx a d ixs x env d.value h.span h.value)))

  with_decl_placed : (ds : List Decl) (d : Option Decl) → AllBy (IsPlacedDecl P) ds → OfSome (IsPlacedDecl P) d → AllBy (IsPlacedDecl P) (with_decl ds d)
  with_decl_placed ds None h k = h
  with_decl_placed ds (Some d) h k = (k, h)

  ordered_placed : (ds : List Decl) (ks : List ℕ) → AllBy (IsPlacedDecl P) ds → AllBy (IsPlacedDecl P) (ordered ds ks)
  ordered_placed ds [] h = tt
  ordered_placed ds (k ∷ ks) h = with_decl_placed (ordered ds ks) (slice_get ds k) (ordered_placed ds ks h) (found_all (IsPlacedDecl P) ds k h)

  -- ---- the whole program

  bounded_there : (at : Option Span) → OfSome P at → StopsThere P (walks.bounded at)
  bounded_there None h = give_there P tt
  bounded_there (Some at) h = stop_there P kind.UnboundedSet at (pos 0) h

  module _ (c : Context) (l : Limits) (m : Mode) (a : Assignment) (p : PlainProgram) (placed : IsPlacedProgram P p) where
    evaluates_there : (xs : List Declared) → StopsInTrees P (eval (world_at l m p (names_env xs)) levels)
    evaluates_there xs = record { by = λ ctx e env h. eval_there P (world_at l m p (names_env xs)) placed.functions levels ctx e env h }

    declare_there : (xs : List Declared) (d : Decl) → IsPlacedDecl P d → StopsThere P (walks.declare c l m a p xs d)
    declare_there xs d h = then_there P (declare_in_there (world_at l m p (names_env xs)) (eval (world_at l m p (names_env xs)) levels) (evaluates_there xs) c a d (names_env xs) h) (λ x. give_there P _)

    aim_there : (xs : List Declared) (g : Goal) → IsPlacedGoal P g → StopsThere P (walks.aim (world_at l m p (names_env xs)) c g)
    aim_there xs program.satisfy h = give_there P _
    aim_there xs (program.minimize e) h = then_there P ((evaluates_there xs).by c e (names_env xs) h) (λ k. give_there P _)
    aim_there xs (program.maximize e) h = then_there P ((evaluates_there xs).by c e (names_env xs) h) (λ k. give_there P _)

    pub walk_there : StopsThere P (walk c l m a p)
    walk_there =
        then_there P (bounded_there (first_unbounded p) (first_unbounded_placed P p placed))
        (λ u. then_there P (loop_there P (IsPlacedDecl P) (walks.declare c l m a p) declare_there [] (ordered p.decls p.order) (ordered_placed p.decls p.order placed.decls))
        (λ xs. then_there P (loop_there P (IsPlaced P) (walks.constrain (world_at l m p (names_env xs)) c) (λ acc e h. then_there P ((evaluates_there xs).by c e (names_env xs) h) (λ k. give_there P _)) [] p.constraints placed.constraints)
        (λ cs. then_there P (aim_there xs p.goal placed.goal) (λ o. give_there P _))))

-- ---- among these places

itself : (ps : List Span) → AllBy (Contains ps) ps
itself ps = recursion_from_All (Contains ps) ps (λ k d low. Contains-get_or ps k d low)

among : {A : Type 0} (ps : List Span) (a : Answer A) → StopsAt (Contains ps) a → StopsAmong ps a
among ps (Out x s) h = tt
among ps (Stopped f) h = h

pub expressions_stop : (w : World) (n : ℕ) (c : Context) (e : Tree) (env : Env) (s : State) → StopsAmong (flat_map function_places w.functions ++ places_in e) (eval w n c e env s)
expressions_stop w n c e env s =
    let all = flat_map function_places w.functions ++ places_in e in
    let left = left_all (Contains all) (flat_map function_places w.functions) (places_in e) (itself all) in
    let right = right_all (Contains all) (flat_map function_places w.functions) (places_in e) (itself all) in
    among all (eval w n c e env s) ((eval_there (Contains all) w (functions_placed (Contains all) w.functions left) n c e env (tree_placed (Contains all) e right)).by s)

pub walks_stop : (c : Context) (l : Limits) (m : Mode) (a : Assignment) (p : PlainProgram) (s : State) → StopsAmong (places_of p) (walk c l m a p s)
walks_stop c l m a p s = among (places_of p) (walk c l m a p s) ((walk_there (Contains (places_of p)) c l m a p (program_placed (Contains (places_of p)) p (itself (places_of p)))).by s)
