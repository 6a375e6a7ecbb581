-- What the globals of scheduling say of numbers. A task is its start and its duration; it runs from its start on, up to its end and not at its end.
use Rattle.std.specs.Prelude.{ℤ, pos, ◌+ℤ◌, int_le, int_lt, List, Bool, not, ◌&&◌, ◌||◌, if◌then◌else◌}
use Rattle.std.specs.List.{list_all}
use Rattle.std.specs.Ordering.{int_eq}
use Rattle.mz_globals.specs.Lists.{pairwise, total, numbered}
use Rattle.mz_globals.specs.Reading.{Placed, is_index}

abbrev pub Task : Type 0
Task = ℤ × ℤ

abbrev pub end_of : Task → ℤ
end_of k = k.0 +ℤ k.1

abbrev pub runs_at : ℤ → Task → Bool
runs_at t k = int_le k.0 t && int_lt t (end_of k)

-- what a task with its use takes at a time
abbrev pub taken_at : ℤ → Task × ℤ → ℤ
taken_at t u = if runs_at t u.0 then u.1 else pos 0

-- what the tasks that run at a time use together
abbrev pub used_at : List (Task × ℤ) → ℤ → ℤ
used_at us t = total (taken_at t) us

-- at the start of a task no more is used than there is
abbrev pub start_fits : List (Task × ℤ) → ℤ → Task × ℤ → Bool
start_fits us most u = int_le (used_at us u.0.0) most

-- The starts tell of every time, since between them less and less is used (`starts_are_enough`)
abbrev pub is_cumulative : List (Task × ℤ) → ℤ → Bool
is_cumulative us most = int_le (pos 0) most && list_all (start_fits us most) us

-- one ends at or before the other's start
abbrev pub one_after : Task → Task → Bool
one_after j k = int_le (end_of j) k.0 || int_le (end_of k) j.0

-- a task without a duration is never in the way
abbrev pub one_after_or_idle : Task → Task → Bool
one_after_or_idle j k = not (int_lt (pos 0) j.1) || not (int_lt (pos 0) k.1) || one_after j k

abbrev pub is_disjunctive : List Task → Bool
is_disjunctive ks = pairwise one_after_or_idle ks

abbrev pub is_strictly_disjunctive : List Task → Bool
is_strictly_disjunctive ks = pairwise one_after ks

-- a box is its extents in x and in y, each as a task
abbrev pub side_by_side : Task × Task → Task × Task → Bool
side_by_side p q = one_after p.0 q.0 || one_after p.1 q.1

abbrev pub is_diffn : List (Task × Task) → Bool
is_diffn boxes = pairwise side_by_side boxes

-- ---- packing: a thing is its bin and its weight

abbrev pub weight_in : ℤ → ℤ × ℤ → ℤ
weight_in bin thing = if int_eq thing.0 bin then thing.1 else pos 0

-- the weights in a bin
abbrev pub load : List (ℤ × ℤ) → ℤ → ℤ
load things bin = total (weight_in bin) things

abbrev pub bin_fits : List (ℤ × ℤ) → ℤ → ℤ × ℤ → Bool
bin_fits things most thing = int_le (load things thing.0) most

-- a number that is no bin has the load 0
abbrev pub packs : ℤ → List (ℤ × ℤ) → Bool
packs most things = int_le (pos 0) most && list_all (bin_fits things most) things

-- a bin with its load
abbrev pub is_load : List (ℤ × ℤ) → ℤ × ℤ → Bool
is_load things p = int_eq (load things p.0) p.1

-- a thing lies in a bin that has a load
abbrev pub is_loaded : Placed ℤ → ℤ × ℤ → Bool
is_loaded loads thing = is_index loads.indices thing.0

abbrev pub are_loads : Placed ℤ → List (ℤ × ℤ) → Bool
are_loads loads things = list_all (is_loaded loads) things && list_all (is_load things) (numbered loads.indices.0 loads.items)
