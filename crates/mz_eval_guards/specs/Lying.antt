-- Whether what symbols stand for lies in a set, by the terms of their nodes.
use Rattle.std.specs.Prelude.{◌≡◌, ℕ, Bool, true, not, List, Option, Some, None, is_some, if◌then◌else◌}
use Rattle.mz_value.specs.Ranges.{Range}
use Rattle.mz_core.specs.declared.types.Base.{Base}
use Rattle.mz_core.specs.declared.types.Base.TheVariants as base
use Rattle.mz_arena.specs.Values.{Term, as_number, as_set, holds, is_member, is_true}
use Rattle.mz_operations.specs.Sets.{is_empty_set, is_subset}
use Rattle.mz_symbol.specs.declared.types.Symbol.{Symbol}
use Rattle.mz_symbol.specs.Runs.{Run}
use Rattle.mz_symbol.specs.Readings.{Reading, IsGiven, Reads, state_of}
use Rattle.mz_eval_guards.specs.declared.lying.Within.{Within}

-- the value of a base that a term is lies in a set, if there is one: a truth value lies in each, and a set is a part of it
abbrev pub value_lies : Base → Option (List Range) → Term → Bool
value_lies base.Bool u x = is_some (as_number x)
value_lies base.SetInt u x = holds (as_set x) u is_subset
value_lies (base.SetEnum e) u x = holds (as_set x) u is_subset
value_lies b u x = is_member (as_number x) u

-- what is no option: a truth value is always there
abbrev pub plain_lies : Base → Option (List Range) → Term → Bool
plain_lies base.Bool u x = true
plain_lies b u x = value_lies b u x

-- an absent option lies in a set that has some element
abbrev pub lies_by : Base → Option ℕ → Option (List Range) → Bool → (ℕ → Term) → ℕ → Bool
lies_by b None u some t x = plain_lies b u (t x)
lies_by b (Some o) u some t x = if is_true (t o) then value_lies b u (t x) else some

abbrev pub symbol_lies : Within → Symbol → Reading → Bool
symbol_lies w s r = lies_by s.base s.occurs (as_set (r.term w.set)) w.some r.term s.term

-- a set of integers, and its node
pub record IsSetNode (id : ℕ) (s : Symbol) : Type 0 where
  pub set : s.base ≡ base.SetInt
  pub plain : s.occurs ≡ None
  pub term : s.term ≡ id

-- a set's node, with whether the set has some element; in a run without values its term isn't told
pub record IsWithin (old new : Run) (u : List Range) (w : Within) : Type 0 where
  pub same : (r : Reading) → Reads r new → state_of r old ≡ state_of r new
  pub set : (r : Reading) → IsGiven r.mode → Reads r new → as_set (r.term w.set) ≡ Some u
  pub some : w.some ≡ not (is_empty_set u)
