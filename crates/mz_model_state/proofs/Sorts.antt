-- Sorts of nodes by their bounds.
use Rattle.std.proofs.Common.{◌≡◌, ℕ, Option, Some, None, IsSome, refl}
use Rattle.mz_arena.specs.declared.node.Sort.TheVariants as sort
use Rattle.mz_arena.specs.Extents.{Known, whole, truth, subset, wholes, truths, subsets, empty, as_truth, as_whole, sort_of}

pub is_truth : (k : Known) → sort_of k ≡ Some sort.Boolean → IsSome (as_truth k)
is_truth (Some (truth e)) h = refl
is_truth (Some (whole e)) h = absurd (cc)
is_truth (Some (subset u)) h = absurd (cc)
is_truth (Some (wholes es)) h = absurd (cc)
is_truth (Some truths) h = absurd (cc)
is_truth (Some (subsets us)) h = absurd (cc)
is_truth (Some empty) h = absurd (cc)
is_truth None h = absurd (cc)

pub is_integer : (k : Known) → sort_of k ≡ Some sort.Integer → IsSome (as_whole k)
is_integer (Some (whole e)) h = refl
is_integer (Some (truth e)) h = absurd (cc)
is_integer (Some (subset u)) h = absurd (cc)
is_integer (Some (wholes es)) h = absurd (cc)
is_integer (Some truths) h = absurd (cc)
is_integer (Some (subsets us)) h = absurd (cc)
is_integer (Some empty) h = absurd (cc)
is_integer None h = absurd (cc)
