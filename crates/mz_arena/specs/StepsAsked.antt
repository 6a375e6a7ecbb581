-- Mirror of src/asked.rt and of the private part of src/arena.rt; private clauses only.
use Rattle.std.specs.Prelude.{◌≡◌, ℕ, pos, nat_eq, List, [], ◌∷◌, ◌++◌, length, slice_get, Bool, true, false, ◌&&◌, Option, Some, None, Result, Ok, Err, if◌then◌else◌}
use Rattle.std.specs.Ordering.{int_eq}
use Rattle.mz_arena.specs.declared.node.Node.{Node}
use Rattle.mz_arena.specs.Entries.{Entry, entry, is_set_const, is_local, is_free}
use Rattle.mz_arena.specs.Numbering.{local_ids}
use Rattle.mz_arena.specs.Arenas.{IsAsked, IsRefused}
use Rattle.mz_arena.specs.declared.table.Table.{Table}
use Rattle.mz_arena.specs.Tables.{entries, IsSoundTable}
use Rattle.mz_arena.specs.Places.{IsListedTable}

-- the node that was looked up is a SetConst
abbrev pub is_const : Option Entry → Bool
is_const None = false
is_const (Some e) = is_set_const e.node.kind

-- its number is this id
abbrev pub is_own : ℕ → Node → Bool
is_own id n = int_eq n.number (pos id)

-- a choice has this number among the choices
abbrev pub is_next : ℕ → Node → Bool
is_next count n = if is_local n.kind then nat_eq n.b count else true

-- what is asked of a variable or a choice, beside its bounds
abbrev pub is_free_node : List Entry → Node → Bool
is_free_node es n = is_own (length es) n && (is_const (slice_get es n.a) && is_next (length (local_ids es)) n)

-- what is asked of a node, beside its bounds
abbrev pub may_stand : List Entry → Node → Bool
may_stand es n = if is_set_const n.kind then false else (if is_free n.kind then is_free_node es n else true)

-- a node that was put into an arena, last
pub record IsLast (old new : List Entry) (n : Node) (id : ℕ) : Type 0 where
  pub asked : IsAsked old n
  pub place : id ≡ length old
  pub items : new ≡ old ++ entry n ∷ []

-- what the test of a node and its making come to
abbrev pub Puts : {E : Type 0} → List Entry → List Entry → Node → Result (Option ℕ) E → Type 0
Puts old new n (Err e) = new ≡ old
Puts old new n (Ok None) = IsRefused old new n
Puts old new n (Ok (Some id)) = IsLast old new n id

-- what holds of an arena's table and its count of choices at all times
pub record IsSoundArena (t : Table) (choices : ℕ) : Type 0 where
  pub table : IsSoundTable t
  pub lists : IsListedTable t
  pub count : choices ≡ length (local_ids (entries t.sets.items t.stored.items))
