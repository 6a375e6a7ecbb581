-- What the terms tell of tasks and things, over integers that may be undefined; private clauses only.
use Rattle.std.specs.Prelude.{ℕ, ◌+◌, ◌*◌, ℤ, pos, Bool, ◌&&◌, ◌||◌, List, zip, Option, Some}
use Rattle.std.specs.List.{list_all}
use Rattle.mz_value.specs.Ranges.{Range}
use Rattle.mz_operations.specs.Views.{number_of_bool}
use Rattle.mz_globals.specs.Lists.{numbered}
use Rattle.mz_symbol.specs.Readings.{Reading}
use Rattle.glob_nodes.specs.declared.arguments.Numbers.{Numbers}
use Rattle.glob_nodes.specs.declared.nodes.Compare.TheVariants.{Equal, AtMost, Less}
use Rattle.glob_nodes.specs.Says.{num, compares}
use Rattle.glob_nodes.specs.Numbers.{plus, product, added}
use Rattle.glob_nodes.specs.Places.{Place, lies_within, known}

-- ---- tasks, each as the nodes of its start and its duration

-- from two starts and durations: one ends at or before the other's start
abbrev pub one_after : Option ℤ → Option ℤ → Option ℤ → Option ℤ → Bool
one_after s d t e = compares AtMost (plus s d) t || compares AtMost (plus t e) s

abbrev pub are_apart : Reading → ℕ × ℕ → ℕ × ℕ → Bool
are_apart r j k = one_after (num r j.0) (num r j.1) (num r k.0) (num r k.1)

abbrev pub is_idle : Option ℤ → Bool
is_idle d = compares AtMost d (Some (pos 0))

abbrev pub are_apart_or_idle : Reading → ℕ × ℕ → ℕ × ℕ → Bool
are_apart_or_idle r j k = is_idle (num r j.1) || (is_idle (num r k.1) || are_apart r j k)

-- a box is its extents in x and in y, each as a task
abbrev pub are_boxes_apart : Reading → (ℕ × ℕ) × (ℕ × ℕ) → (ℕ × ℕ) × (ℕ × ℕ) → Bool
are_boxes_apart r p q = are_apart r p.0 q.0 || are_apart r p.1 q.1

abbrev pub boxes_in : Numbers → Numbers → Numbers → Numbers → List ((ℕ × ℕ) × (ℕ × ℕ))
boxes_in x dx y dy = zip (zip x.items.items dx.items.items) (zip y.items.items dy.items.items)

-- ---- what tasks use

abbrev pub uses_in : Numbers → Numbers → Numbers → List ((ℕ × ℕ) × ℕ)
uses_in s d u = zip (zip s.items.items d.items.items) u.items.items

-- what the nodes may cost of so many tasks
abbrev pub used_room : ℕ → ℕ
used_room k = (34 * k + 6 + 6) * k + 12

-- from a time, a start and a duration
abbrev pub runs_at : Option ℤ → Option ℤ → Option ℤ → Bool
runs_at t s d = compares AtMost s t && compares Less t (plus s d)

abbrev pub taken : Option ℤ → Option ℤ → Option ℤ → Option ℤ → Option ℤ
taken t s d u = product (Some (number_of_bool (runs_at t s d))) u

-- what a task with its use takes at a time
abbrev pub taken_at : Reading → ℕ → (ℕ × ℕ) × ℕ → Option ℤ
taken_at r t u = taken (num r t) (num r u.0.0) (num r u.0.1) (num r u.1)

abbrev pub start_fits : Reading → List ((ℕ × ℕ) × ℕ) → ℕ → (ℕ × ℕ) × ℕ → Bool
start_fits r us b u = compares AtMost (added (λ w. taken_at r u.0.0 w) us) (num r b)

abbrev pub is_enough : Reading → List ((ℕ × ℕ) × ℕ) → ℕ → Bool
is_enough r us b = compares AtMost (Some (pos 0)) (num r b) && list_all (λ u. start_fits r us b u) us

-- ---- things, each as the nodes of its bin and its weight

abbrev pub weight : Option ℤ → Option ℤ → Option ℤ → Option ℤ
weight bin b w = product (Some (number_of_bool (compares Equal b bin))) w

abbrev pub weight_in : Reading → ℕ → ℕ × ℕ → Option ℤ
weight_in r bin p = weight (num r bin) (num r p.0) (num r p.1)

abbrev pub bin_fits : Reading → List (ℕ × ℕ) → ℕ → ℕ × ℕ → Bool
bin_fits r ps most p = compares AtMost (added (λ q. weight_in r p.0 q) ps) (num r most)

abbrev pub all_bins_fit : Reading → List (ℕ × ℕ) → ℕ → Bool
all_bins_fit r ps most = compares AtMost (Some (pos 0)) (num r most) && list_all (λ p. bin_fits r ps most p) ps

-- ---- loads

-- what the nodes may cost of so many things and loads
abbrev pub load_room : ℕ → ℕ → ℕ
load_room k a = 24 * k + (18 * k + 6 + 6) * a + 6

-- each thing is in a bin of this range
abbrev pub all_in_bins : Reading → Range → List (ℕ × ℕ) → Bool
all_in_bins r range ps = list_all (λ p. lies_within range (num r p.0)) ps

-- a bin with the node of its load
abbrev pub has_load : Reading → List (ℕ × ℕ) → Place → Bool
has_load r ps b = compares Equal (added (λ q. weight b.0 (num r q.0) (num r q.1)) ps) (num r b.1)

abbrev pub are_loads : Reading → Range → List ℕ → List (ℕ × ℕ) → Bool
are_loads r range loads ps = all_in_bins r range ps && list_all (λ p. has_load r ps (known p)) (numbered range.0 loads)
