-- What the names of a scoped model stand for. Mirror of src/model_names.rt; private clauses only.
use Rattle.std.specs.Prelude.{List, ◌++◌, map}
use Rattle.std.specs.List.{flat_map}
use Rattle.mz_tree.specs.Tree.{Name}
use Rattle.mz_scope_order.specs.Scoped.{ScopedTree}
use Rattle.mz_check_meaning.specs.declared.meaning.Meaning.{Meaning}
use Rattle.mz_check_meaning.specs.Checks.{numbered, enum_meanings, decl_meaning, bare_meaning}

abbrev pub meanings_of : ScopedTree → List (Name × Meaning)
meanings_of s = flat_map enum_meanings (numbered s.enums) ++ (map decl_meaning (numbered s.decls) ++ flat_map bare_meaning (numbered s.functions))
