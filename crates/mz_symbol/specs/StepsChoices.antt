-- Mirror of src/choices.rt; private clauses only.
use Rattle.std.specs.Prelude.{◌≡◌, ◌≢◌, ℕ, pos, List, [], ◌∷◌, ◌++◌, Bool, true}
use Rattle.mz_value.specs.Ranges.{Range}
use Rattle.mz_core.specs.declared.types.Base.{Base}
use Rattle.mz_arena.specs.declared.node.Node.{Node}
use Rattle.mz_arena.specs.Charges.{charge_of}
use Rattle.mz_arena.specs.Entries.{is_free, is_local}
use Rattle.mz_meaning.specs.Domains.{Domain}
use Rattle.mz_symbol.specs.declared.types.Symbol.{Symbol}
use Rattle.mz_symbol.specs.declared.types.Free.{Free}
use Rattle.mz_arena.specs.FreeNodes.{is_set_kind}
use Rattle.mz_instance.specs.Parts.{Part, Subset, is_subset_sort, sort_of, truth_mark}
use Rattle.mz_symbol.specs.Runs.{Run}

abbrev pub choice_domain : Base → Bool → List Range → Domain
choice_domain b o u = record { base = b; opt = o; set = u }

abbrev pub part_over : Base → List Range → Part
part_over b u = record { sort = sort_of b; set = u }

abbrev pub free_of : Symbol → List Range → Free
free_of s u = record { symbol = s; set = u }

-- a choice node of a base, or a variable's, over the SetConst with this id, with this number and its own id
pub record IsPartNode (choice : Bool) (b : Base) (over k id : ℕ) (n : Node) : Type 0 where
  pub free : is_free n.kind ≡ true
  pub local : is_local n.kind ≡ choice
  pub sort : is_set_kind n.kind ≡ is_subset_sort (sort_of b)
  pub mark : sort_of b ≢ Subset → n.c ≡ truth_mark (sort_of b)
  pub domain : n.a ≡ over
  pub number : n.b ≡ k
  pub own : n.number ≡ pos id
  pub charge : charge_of n.kind ≡ 4

-- one choice more was noted, and nothing else changed
pub record IsNoted (old new : Run) (f : Free) : Type 0 where
  pub work : new.work ≡ old.work
  pub weight : new.weight ≡ old.weight
  pub saved : new.saved ≡ old.saved
  pub arena : new.arena ≡ old.arena
  pub choices : new.choices ≡ old.choices ++ f ∷ []
  pub lines : new.lines ≡ old.lines
