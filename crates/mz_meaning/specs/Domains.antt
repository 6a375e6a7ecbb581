-- Domains: which values a decision variable, or a free local, may have.
use Rattle.std.specs.Prelude.{ℕ, ℤ, pos, neg_ℤ, Bool, true, false, not, ◌&&◌, List, [], ◌∷◌, map, Option, Some, None, nat_eq, int_le, int_lt, if◌then◌else◌, ◌+ℤ◌}
use Rattle.std.specs.List.{list_all}
use Rattle.mz_interval.specs.Ends.{is_number}
use Rattle.mz_value.specs.Ranges.{Range}
use Rattle.mz_value.specs.Contents.{Content}
use Rattle.mz_value.specs.Contents as values
use Rattle.mz_core.specs.declared.types.Base.{Base}
use Rattle.mz_core.specs.declared.types.Base.TheVariants as base
use Rattle.mz_core.specs.Types.{PlainType, is_set}
use Rattle.mz_operations.specs.Views.{items_in, number_of_bool}
use Rattle.mz_operations.specs.Sets.{contains, is_subset, is_empty_set, same_set}
use Rattle.mz_operations.specs.Bounds.{Bound, Bounds, hull_of_set}
use Rattle.mz_operations.specs.Bounds as bounds

-- The values of one variable: its base, whether it may be absent, and a set. A number is one of the set, a truth value is 0 or 1 of it; a set is a part of it
pub record Domain : Type 0 where
  pub base : Base
  pub opt : Bool
  pub set : List Range

-- ranges that are not empty, ascend and don't touch: the one list of a set
unfoldable pub is_canonical : List Range → Bool
is_canonical [] = true
is_canonical (r ∷ []) = int_le r.0 r.1
is_canonical (r ∷ s ∷ rs) = int_le r.0 r.1 && (int_lt (r.1 +ℤ pos 1) s.0 && is_canonical (s ∷ rs))

-- no number beyond the limit, of which `is_subset` says nothing
abbrev pub is_limited : List Range → Bool
is_limited rs = list_all (λ r. is_number r.0 && is_number r.1) rs

-- the second set is a part of the first
abbrev pub is_part : List Range → List Range → Bool
is_part u rs = is_canonical rs && (is_limited rs && is_subset rs u)

-- a value of each base, by the set
abbrev pub holds_bool : Base → List Range → Bool → Bool
holds_bool base.Bool u b = contains u (number_of_bool b)
holds_bool _ u b = false

abbrev pub holds_int : Base → List Range → ℤ → Bool
holds_int base.Int u n = contains u n
holds_int _ u n = false

abbrev pub holds_case : Base → List Range → ℕ → ℤ → Bool
holds_case (base.Enum e) u f k = nat_eq e f && contains u k
holds_case _ u f k = false

abbrev pub holds_set : Base → List Range → Option ℕ → List Range → Bool
holds_set base.SetInt u None rs = is_part u rs
holds_set (base.SetEnum e) u (Some f) rs = nat_eq e f && is_part u rs
holds_set _ u of rs = false

-- A VALUE LIES IN A DOMAIN where it is of the domain's base and in its set: `true` is no value of `var 0..1`. Absent lies in each domain of an option that isn't empty
unfoldable pub lies_in : Domain → Content → Bool
lies_in d (values.bool b) = holds_bool d.base d.set b
lies_in d (values.int n) = holds_int d.base d.set n
lies_in d (values.case e k) = holds_case d.base d.set e k
lies_in d (values.set of rs) = holds_set d.base d.set of rs
lies_in d values.absent = d.opt && not (is_empty_set d.set)
lies_in d _ = false

-- a set variable has the empty set at least
abbrev pub is_empty_domain : Domain → Bool
is_empty_domain d = not (is_set d.base) && is_empty_set d.set

-- the hull of numbers, 0..0 of none; for sets the empty set and the greatest one
abbrev pub domain_bound : Domain → Bound
domain_bound d = if is_set d.base then bounds.sets [] d.set else bounds.number (hull_of_set d.set)

-- what a type's variable ranges over where no set is declared
abbrev pub default_set : ℤ → Base → List Range
default_set n base.Bool = (pos 0, pos 1) ∷ []
default_set n b = (neg_ℤ n, n) ∷ []

abbrev pub domain_over : PlainType → List Range → Domain
domain_over t u = record { base = t.base; opt = t.opt; set = u }

-- THE DOMAINS OF A NAME: of a variable, or of each place of an array with these index ranges; a par name has none
pub data Domains : Type 0 where
  Fixed : Domains
  Scalar : Domain → Domains
  Places : List Range → List Domain → Domains

abbrev pub domains_bounds : Domains → Bounds
domains_bounds Fixed = bounds.one (bounds.number bounds.nothing)
domains_bounds (Scalar d) = bounds.one (domain_bound d)
domains_bounds (Places ix ds) = bounds.many ix (map domain_bound ds)

unfoldable pub all_lie_in : List Domain → List Content → Bool
all_lie_in [] [] = true
all_lie_in (d ∷ ds) (x ∷ xs) = lies_in d x && all_lie_in ds xs
all_lie_in [] (x ∷ xs) = false
all_lie_in (d ∷ ds) [] = false

abbrev pub fills : List Range → List Domain → Content → Bool
fills ix ds (values.array jx xs) = same_set ix jx && all_lie_in ds (items_in xs)
fills ix ds _ = false

abbrev pub if_there : (Content → Bool) → Option Content → Bool
if_there p None = false
if_there p (Some x) = p x

-- a decision value lies in its domain; nothing is asked of a par name
abbrev pub holds : Domains → Option Content → Bool
holds Fixed v = true
holds (Scalar d) v = if_there (lies_in d) v
holds (Places ix ds) v = if_there (fills ix ds) v
