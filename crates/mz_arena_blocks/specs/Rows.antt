-- What is kept of the lists. Private clauses only.
use Rattle.std.specs.Prelude.{◌≡◌, ℕ, suc, ◌+◌, ◌<◌, ◌≤◌, List, [], ◌∷◌, drop, take, map, slice_get, Some}
use Rattle.mz_arena_blocks.specs.declared.blocks.Row.{Row}
use Rattle.mz_arena_blocks.specs.Joins.{join_of_all, AllFit}
use Rattle.mz_arena_blocks.specs.Lists.{list_at, lists_of}

-- the first elements of a list, and what they have together. The list after them has a place, which lies as far below the list's own as they are many
pub record IsBlock {T S : Type 0} (seen : T → S) (joined : S → S → S) (lists : List (List T)) (place : ℕ) (list : List T) (next span : ℕ) (all : T) : Type 0 where
  pub below : next + span ≤ place
  pub some : 0 < span
  pub rest : list_at lists next ≡ drop span list
  pub together : join_of_all joined (map seen (take span list)) ≡ Some (seen all)

-- a list with an element, its rest, and its first block
pub record IsRow {T S : Type 0} (seen : T → S) (fits : S → Type 0) (joined : S → S → S) (lists : List (List T)) (place : ℕ) (list : List T) (r : Row T) : Type 0 where
  pub tail : r.tail < place
  pub parts : list ≡ r.head ∷ list_at lists r.tail
  pub elements : AllFit fits (map seen list)
  pub block : IsBlock seen joined lists place list r.block.next r.block.span r.block.all

-- each row, at all times
pub record AreRows {T S : Type 0} (seen : T → S) (fits : S → Type 0) (joined : S → S → S) (rows : List (Row T)) : Type 0 where
  pub each : (k : ℕ) (r : Row T) → slice_get rows k ≡ Some r → IsRow seen fits joined (lists_of rows) (suc k) (list_at (lists_of rows) (suc k)) r

-- a block of at most this many elements
pub record IsStep {T S : Type 0} (seen : T → S) (fits : S → Type 0) (joined : S → S → S) (lists : List (List T)) (list left next span : ℕ) (all : T) : Type 0 where
  pub block : IsBlock seen joined lists list (list_at lists list) next span all
  pub few : span ≤ left
  pub elements : AllFit fits (map seen (list_at lists list))

-- the first two blocks of a list, which are equally long
pub record AreEqualBlocks {T S : Type 0} (seen : T → S) (fits : S → Type 0) (joined : S → S → S) (lists : List (List T)) (list : ℕ) (first second : Row T) : Type 0 where
  pub row : IsRow seen fits joined lists list (list_at lists list) first
  pub next : IsRow seen fits joined lists first.block.next (list_at lists first.block.next) second
  pub same : first.block.span ≡ second.block.span
