-- RUNS: what an expansion has made so far, and what holds of it at all times.
use Rattle.std.specs.Prelude.{◌≡◌, ℕ, Bool, true, false, List, map, length, Some, IsSome, slice_get}
use Rattle.mz_arena.specs.Entries.{Entry, children, is_free}
use Rattle.mz_arena.specs.FreeNodes.{is_set_kind}
use Rattle.mz_arena.specs.Values.{Values, Term, as_number, as_set}
use Rattle.mz_arena.specs.Terms.{node_term}
use Rattle.mz_arena.specs.Arenas.{IsArena}
use Rattle.mz_meaning.specs.Domains.{Domain}
use Rattle.mz_symbol.specs.declared.types.Free.{Free}
use Rattle.mz_symbol.specs.declared.types.Line.{Line}
use Rattle.mz_instance.specs.Parts.{AreNodes}
use Rattle.mz_symbol.specs.Choices.{all_parts, AreChoosable}
use Rattle.mz_symbol.specs.Symbols.{domain_of, free_ids, IsLine}

pub record Run : Type 0 where
  pub work : ℕ
  pub weight : ℕ
  -- charges that work and weight have paid for, and that no node has taken yet
  pub saved : ℕ
  pub arena : List Entry
  pub choices : List Free
  pub lines : List Line

-- the domains of the choices, in order
abbrev pub taken : Run → List Domain
taken s = map domain_of s.choices

-- a variable or a choice has a value: a set, or a number
abbrev pub HasValue : Bool → Term → Type 0
HasValue true x = IsSome (as_set x)
HasValue false x = IsSome (as_number x)

-- terms of ids that obey the nodes: each node that isn't free means what its kind says, and each that is has a value
pub record ReadsNodes (t : ℕ → Term) (es : List Entry) : Type 0 where
  pub kinds : (id : ℕ) (e : Entry) → slice_get es id ≡ Some e → is_free e.node.kind ≡ false → (v : Values) → t id ≡ node_term v e (map t (children e.node))
  pub frees : (id : ℕ) (e : Entry) → slice_get es id ≡ Some e → is_free e.node.kind ≡ true → HasValue (is_set_kind e.node.kind) (t id)

abbrev pub AreLines : List Entry → List Line → Type 0
AreLines es ls = (t : ℕ → Term) → ReadsNodes t es → (k : ℕ) (l : Line) → slice_get ls k ≡ Some l → IsLine t l

-- WHAT HOLDS OF EACH RUN, after a fault and out of memory too. The parts of the choices are the first Locals, in order. Further Locals there are only where memory ran out between a node and its choice
pub record IsSound (es : List Entry) (cs : List Free) (ls : List Line) : Type 0 where
  pub arena : IsArena es
  pub locals : AreNodes es true 0 (free_ids cs) (all_parts (map domain_of cs))
  pub domains : AreChoosable (map domain_of cs)
  pub lines : AreLines es ls

abbrev pub IsRun : Run → Type 0
IsRun s = IsSound s.arena s.choices s.lines

-- what holds of a run's fields: the number of the next part is counted
pub record IsCounted (es : List Entry) (cs : List Free) (ls : List Line) (parts : ℕ) : Type 0 where
  pub sound : IsSound es cs ls
  pub count : parts ≡ length (free_ids cs)
