-- Mirror of src/parts.rt; private clauses only.
use Rattle.std.specs.Prelude.{◌≡◌, ◌≢◌, ◌+◌, ℕ, List, true, false, length, suc, Some, slice_get}
use Rattle.mz_core.specs.declared.types.Base.{Base}
use Rattle.mz_arena.specs.declared.node.Node.{Node}
use Rattle.mz_arena.specs.Entries.{Entry, is_free, is_local}
use Rattle.mz_arena.specs.FreeNodes.{is_set_kind}
use Rattle.mz_instance.specs.Parts.{Subset, is_subset_sort, sort_of, truth_mark, occurrence, IsNode, AreNodes}
use Rattle.mz_symbol.specs.declared.types.Free.{Free}
use Rattle.mz_symbol.specs.Choices.{domain_parts}
use Rattle.mz_symbol.specs.Symbols.{domain_of, symbol_ids}
use Rattle.mz_symbol.specs.StepsChoices.{part_over}

-- a variable of a base
pub record IsVarKind (b : Base) (n : Node) : Type 0 where
  pub free : is_free n.kind ≡ true
  pub local : is_local n.kind ≡ false
  pub sort : is_set_kind n.kind ≡ is_subset_sort (sort_of b)
  pub mark : sort_of b ≢ Subset → n.c ≡ truth_mark (sort_of b)

-- an option's two parts
pub record IsOption (es : List Entry) (k o : ℕ) (f : Free) : Type 0 where
  pub occurs : IsNode es false k occurrence o
  pub value : IsNode es false (suc k) (part_over f.symbol.base f.set) f.symbol.term

-- a place's parts have their nodes, and this is the number after them
pub record IsPlace (es : List Entry) (k : ℕ) (f : Free) (n : ℕ) : Type 0 where
  pub nodes : AreNodes es false k (symbol_ids f.symbol) (domain_parts (domain_of f))
  pub number : n ≡ k + length (symbol_ids f.symbol)

-- the place with this number, from 0
pub record IsPlacedAt (es : List Entry) (k : ℕ) (fs : List Free) (i n : ℕ) : Type 0 where
  pub place : (f : Free) → slice_get fs i ≡ Some f → IsPlace es k f n
