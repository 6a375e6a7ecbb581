-- The steps of the walk, its end, and where it stops.
use Rattle.std.proofs.Common.{◌≡◌, ◌∙◌, ℕ, zero, suc, ◌+◌, List, [], ◌∷◌, ◌++◌, length, map, None, refl, sym, ap, subst, arith}
use Rattle.std.proofs.lemmas.List.{append-nil, append_assoc, map-append}
use Rattle.std.proofs.lemmas.List.Concat.{flat_map-append}
use Rattle.mz_base.specs.declared.fault.Fault.{Fault}
use Rattle.mz_core.specs.Program.{PlainProgram}
use Rattle.mz_core.specs.Tree.{Tree, Decl}
use Rattle.mz_arena.specs.Instances.{Instance}
use Rattle.mz_meaning.specs.Domains.{Domain}
use Rattle.mz_meaning.specs.Walk.{Limits, ordered}
use Rattle.mz_model_meaning.specs.Decoded.{AreShaped}
use Rattle.mz_model_meaning.specs.Refusals.{StopsOnce}
use Rattle.mz_symbol.specs.declared.types.Free.{Free}
use Rattle.mz_symbol.specs.Symbols.{domain_of}
use Rattle.mz_symbol.specs.Runs.{Run}
use Rattle.mz_model_state.specs.Hands.{HeldName, HeldConstraint, Hand, kind_places, all_places, AreVars, WalkStops}
use Rattle.mz_model_state.specs.Laws.{HandModels, HandStops}
use Rattle.mz_model_state.specs.Loops.{Started, OneMoreDeclared, OneStops, AllDeclared, OneMoreConstrained, ConstraintStops, ObjectiveStops, WholeWalk}
use Rattle.mz_model_state.specs.Roots.{MoreRooted, MoreMet, RootedKept, MetKept}
use Rattle.mz_model_state.specs.Variables.{IsNameOf, AreNamesOf, MoreSlots, NamesMade}
use Rattle.mz_model_state.specs.Tested.{TestedMakes}
use Rattle.mz_model_state.specs.Progress.{IsBetween, Begins, IsNext, OneMoreName, IsAmong, AllNames, OneMoreConstraint, IsHalted, DeclarationHalts, ConstraintHalts, ObjectiveHalts, HaltedStops, IsClosed, ClosedModels}

pub begins : Started → Begins
begins started l p s work weight choices none = record { whole = refl; walk = started l p s work weight choices none; rooted = tt; names = tt; slots = tt; shaped = tt }

names_more : (ds : List Decl) (ns : List HeldName) (d : Decl) (n : HeldName) → AreNamesOf ds ns → IsNameOf d n → AreNamesOf (ds ++ d ∷ []) (ns ++ n ∷ [])
names_more [] [] d n h is = (is, tt)
names_more [] (m ∷ ns) d n h is = absurd h
names_more (e ∷ ds) [] d n h is = absurd h
names_more (e ∷ ds) (m ∷ ns) d n h is = (h.0, names_more ds ns d n h.1 is)

shaped_more : (ds es : List Domain) → AreShaped ds → AreShaped es → AreShaped (ds ++ es)
shaped_more [] es h g = g
shaped_more (d ∷ ds) es h g = (h.0, shaped_more ds es h.1 g)

places_more : (ns : List HeldName) (n : HeldName) → map domain_of (all_places ns) ++ map domain_of (kind_places n.kind) ≡ map domain_of (all_places (ns ++ n ∷ []))
places_more ns n =
    sym (map-append domain_of (all_places ns) (kind_places n.kind))
    ∙ ap (λ fs. map domain_of (all_places ns ++ fs)) (sym (append-nil (kind_places n.kind)))
    ∙ ap (map domain_of) (sym (flat_map-append (λ (n : HeldName). kind_places n.kind) ns (n ∷ [])))

pub one_more_name : OneMoreDeclared → MoreRooted → MoreSlots → OneMoreName
one_more_name walked rooted slots l p old new first rest ns d n h next = record {
  whole = append_assoc first (d ∷ []) rest ∙ h.whole;
  walk = walked l p old new ns d rest n h.walk next.name;
  rooted = rooted old new ns n next.name.back h.rooted next.rooted;
  names = names_more first ns d n h.names next.is;
  slots = slots 0 ns n h.slots (next.slot ∙ omega arith);
  shaped = subst AreShaped (places_more ns n) (shaped_more (map domain_of (all_places ns)) (map domain_of (kind_places n.kind)) h.shaped next.shaped);
}

pub all_names : AllDeclared → AllNames
all_names all l p s first ns h = record {
  walk = all l p s ns h.walk;
  rooted = h.rooted;
  met = tt;
  names = subst (λ ds. AreNamesOf ds ns) (sym (append-nil first) ∙ h.whole) h.names;
  slots = h.slots;
  shaped = h.shaped;
}

pub one_more_constraint : OneMoreConstrained → RootedKept → MoreMet → OneMoreConstraint
one_more_constraint walked kept met l p old new ns cs e rest c h next rooted = record {
  walk = walked l p old new ns cs e rest c h.walk next;
  rooted = kept old new ns next.back h.rooted;
  met = met old new cs c next.back h.met rooted;
  names = h.names;
  slots = h.slots;
  shaped = h.shaped;
}

pub declaration_halts : OneStops → DeclarationHalts
declaration_halts stops l p old new first rest ns d f h fault = stops l p old new ns d rest f h.walk fault

pub constraint_halts : ConstraintStops → ConstraintHalts
constraint_halts stops l p old new ns cs e rest f h fault = stops l p old new ns cs e rest f h.walk fault

pub objective_halts : ObjectiveStops → ObjectiveHalts
objective_halts stops l p old new ns cs f h fault = stops l p old new ns cs f h.walk fault

pub halted_stops : HandStops → HaltedStops
halted_stops stops l p f s ns h walk = stops l p f s ns (record { run = h.run; vars = h.vars; slots = h.slots; stops = walk })

pub closed_models : WholeWalk → HandModels → NamesMade → RootedKept → MetKept → TestedMakes → ClosedModels
closed_models walked models named kept met tested l p old h inst c =
    let whole = tested h.run h.names inst c.run c.arena c.made c.vars c.walk.shaped c.counted c.tested in
    models l p inst h whole.instance c.declared (record {
      run = c.run;
      vars = c.vars;
      walks = walked l p old h c.walk.walk c.objective;
      rooted = kept old h.run h.names c.objective.back c.walk.rooted;
      met = met old h.run h.constraints c.objective.back c.walk.met;
      goal = c.goal;
      aimed = c.aimed;
      arena = c.arena;
      roots = c.roots;
      names = named (ordered p.decls p.order) h.names inst.vars c.walk.names c.made;
      pars = c.pars;
      whole = whole.choices;
    })
