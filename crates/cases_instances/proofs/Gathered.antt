-- An instance, from what the tests tell.
use Rattle.std.proofs.Common.{◌≡◌, ℕ, List, map, false, Some, slice_get, subst}
use Rattle.mz_arena.specs.declared.instance.Instance.{Instance as CodeInstance}
use Rattle.mz_arena.specs.Arenas.{IsArena}
use Rattle.mz_arena.specs.Instances.{ModelVar, model_var, instance}
use Rattle.mz_instance.specs.Parts.{Part, AreNodes, ids, parts}
use Rattle.mz_instance.specs.Instance.{IsInstance, AreModelVars, AreParts, AreTruths, IsObjective}
use Rattle.cases_instances.specs.Nodes.{AreKept}

pub instance_given : (i : CodeInstance) (ms : List ModelVar) (ps : List Part) (is rs : List ℕ) → ms ≡ map model_var i.vars.items → rs ≡ i.roots.items → ps ≡ parts ms → is ≡ ids ms → IsArena i.arena → AreModelVars ms → AreParts ps → AreNodes i.arena false 0 is ps → AreKept i.arena is → AreTruths i.arena rs → IsObjective i.arena i.goal → IsInstance (instance i)
instance_given i ms ps is rs same roots hp hi arena vars suited nodes kept truths goal =
    let parts_are : ps ≡ parts (map model_var i.vars.items) = subst (λ xs. ps ≡ parts xs) same hp in
    let ids_are : is ≡ ids (map model_var i.vars.items) = subst (λ xs. is ≡ ids xs) same hi in
    record {
      arena = arena;
      vars = subst AreModelVars same vars;
      suited = subst AreParts parts_are suited;
      nodes = subst (λ xs. AreNodes i.arena false 0 xs (parts (map model_var i.vars.items))) ids_are (subst (AreNodes i.arena false 0 is) parts_are nodes);
      no_more = λ id e s f l. subst (λ xs. slice_get xs e.node.b ≡ Some id) ids_are ((kept id e s).own f l);
      chosen = λ id e s l. (kept id e s).chosen l;
      roots = subst (AreTruths i.arena) roots truths;
      goal = goal;
    }
