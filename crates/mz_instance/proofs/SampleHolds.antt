-- The worked example is an instance, and its choice has its node.
use Rattle.std.proofs.Common.{◌≡◌, ◌≢◌, refl, ℕ, zero, suc, ℤ, true, false, [], ◌∷◌, Some, slice_get, IsSome, subst, inr, arith}
use Rattle.std.proofs.lemmas.Int.{ints}
use Rattle.mz_operations.specs.Arrays.{place_count}
use Rattle.mz_operations.specs.Laws.{IsSet}
use Rattle.mz_operations.specs.Sets.{end_of}
use Rattle.mz_arena.specs.Entries.{Entry, children, AllBelow, is_free, is_local, is_set_const, folded}
use Rattle.mz_arena.specs.Terms.{own_id}
use Rattle.mz_arena.specs.Extents.{extents, extent, bool_extent, variable_extent, set_variable_extent, comparison_extent}
use Rattle.mz_arena.specs.Numbering.{local_ids_from, local_ids, IsChoice}
use Rattle.mz_arena.specs.Arenas.{HasDomain, IsArena}
use Rattle.mz_instance.specs.Parts.{Truth, truths, AreNodes, ids, parts}
use Rattle.mz_instance.specs.Instance.{IsInstance, AreModelVars, IsPart, AreParts, AreTruths, CanTake}
use Rattle.mz_instance.specs.Sample.{one_or_two, arena, sample, choice}
use Rattle.mz_instance.proofs.Items.{each_at}

-- ---- the arena

not_free : {A : Type 0} → false ≡ true → A
not_free e = absurd (cc)

is_own : (id : ℕ) (e : Entry) → slice_get arena id ≡ Some e → is_free e.node.kind ≡ true → own_id e.node ≡ id
is_own = each_at (λ id e. is_free e.node.kind ≡ true → own_id e.node ≡ id) arena
    (λ f. not_free f, (λ f. refl, (λ f. not_free f, (λ f. refl, (λ f. refl, (λ f. refl, (λ f. refl, (λ f. refl, (λ f. not_free f, (λ f. not_free f, tt))))))))))

is_ordered : (id : ℕ) (e : Entry) → slice_get arena id ≡ Some e → AllBelow id (children e.node)
is_ordered = each_at (λ id e. AllBelow id (children e.node)) arena
    (tt, ((omega arith, tt), (tt, ((omega arith, tt), ((omega arith, tt), ((omega arith, tt), ((omega arith, tt), ((omega arith, tt), (tt, ((omega arith, (omega arith, tt)), tt))))))))))

is_bounded : (id : ℕ) (e : Entry) → slice_get arena id ≡ Some e → IsSome (extent arena id)
unfolding extents folded bool_extent variable_extent set_variable_extent comparison_extent end_of
is_bounded = each_at (λ id e. IsSome (extent arena id)) arena (refl, (refl, (refl, (refl, (refl, (refl, (refl, (refl, (refl, (refl, tt))))))))))

choice_there : (k id : ℕ) → slice_get (local_ids arena) k ≡ Some id → IsChoice arena k id
unfolding local_ids local_ids_from
choice_there zero id at =
    let same : 7 ≡ id = cc in
    subst (IsChoice arena 0) same (record { there = _; stands = refl; local = refl; number = refl })
choice_there (suc k) id at = absurd (cc)

all_choices : (id : ℕ) (e : Entry) → slice_get arena id ≡ Some e → is_local e.node.kind ≡ true → slice_get (local_ids arena) e.node.b ≡ Some id
unfolding local_ids local_ids_from
all_choices = each_at (λ id e. is_local e.node.kind ≡ true → slice_get (local_ids arena) e.node.b ≡ Some id) arena
    (λ f. not_free f, (λ f. not_free f, (λ f. not_free f, (λ f. not_free f, (λ f. not_free f, (λ f. not_free f, (λ f. not_free f, (λ f. refl, (λ f. not_free f, (λ f. not_free f, tt))))))))))

over_one_or_two : IsSet one_or_two
over_one_or_two = ((omega (arith, ints), tt, tt), ((omega (arith, ints), omega (arith, ints)), (omega (arith, ints), omega (arith, ints)), tt))

over_truths : IsSet truths
over_truths = ((omega (arith, ints), tt, tt), ((omega (arith, ints), omega (arith, ints)), (omega (arith, ints), omega (arith, ints)), tt))

unmarked : {A : Type 0} → ◌≡◌ {A = ℕ} 0 1 → A
unmarked e = absurd (cc)

has_domains : (id : ℕ) (e : Entry) → slice_get arena id ≡ Some e → is_free e.node.kind ≡ true → HasDomain arena e.node
has_domains = each_at (λ id e. is_free e.node.kind ≡ true → HasDomain arena e.node) arena
    (λ f. not_free f, (λ f. record { const = record { there = _; stands = refl; is = refl }; both = λ m c. refl }, (λ f. not_free f, (λ f. record { const = record { there = _; stands = refl; is = refl }; both = λ m c. unmarked c }, (λ f. record { const = record { there = _; stands = refl; is = refl }; both = λ m c. not_free m }, (λ f. record { const = record { there = _; stands = refl; is = refl }; both = λ m c. refl }, (λ f. record { const = record { there = _; stands = refl; is = refl }; both = λ m c. refl }, (λ f. record { const = record { there = _; stands = refl; is = refl }; both = λ m c. unmarked c }, (λ f. not_free f, (λ f. not_free f, tt))))))))))

are_canonical : (id : ℕ) (e : Entry) → slice_get arena id ≡ Some e → is_set_const e.node.kind ≡ true → IsSet e.set
are_canonical = each_at (λ id e. is_set_const e.node.kind ≡ true → IsSet e.set) arena
    (λ c. over_truths, (λ c. not_free c, (λ c. over_one_or_two, (λ c. not_free c, (λ c. not_free c, (λ c. not_free c, (λ c. not_free c, (λ c. not_free c, (λ c. not_free c, (λ c. not_free c, tt))))))))))

is_arena : IsArena arena
is_arena = record { ordered = is_ordered; bounded = is_bounded; own = is_own; numbered = record { there = choice_there; all = all_choices }; domains = has_domains; canonical = are_canonical }

-- ---- the parts and their nodes

pub nodes : AreNodes arena false 0 (ids sample.vars) (parts sample.vars)
nodes = (
  record { there = _; stands = refl; free = refl; local = refl; sort = refl; mark = λ n. refl; own = refl; number = refl; over = _; domain = refl; set = refl },
  (
    record { there = _; stands = refl; free = refl; local = refl; sort = refl; mark = λ n. refl; own = refl; number = refl; over = _; domain = refl; set = refl },
    (
      record { there = _; stands = refl; free = refl; local = refl; sort = refl; mark = λ n. absurd (n refl); own = refl; number = refl; over = _; domain = refl; set = refl },
      (
        record { there = _; stands = refl; free = refl; local = refl; sort = refl; mark = λ n. refl; own = refl; number = refl; over = _; domain = refl; set = refl },
        (record { there = _; stands = refl; free = refl; local = refl; sort = refl; mark = λ n. refl; own = refl; number = refl; over = _; domain = refl; set = refl }, tt),
      ),
    ),
  ),
)

pub locals : AreNodes arena true 0 (local_ids arena) (choice ∷ [])
unfolding local_ids local_ids_from
locals = (record { there = _; stands = refl; free = refl; local = refl; sort = refl; mark = λ n. refl; own = refl; number = refl; over = _; domain = refl; set = refl }, tt)

no_more : (id : ℕ) (e : Entry) → slice_get arena id ≡ Some e → is_free e.node.kind ≡ true → is_local e.node.kind ≡ false → slice_get (ids sample.vars) e.node.b ≡ Some id
no_more = each_at (λ id e. is_free e.node.kind ≡ true → is_local e.node.kind ≡ false → slice_get (ids sample.vars) e.node.b ≡ Some id) arena
    (λ f l. not_free f, (λ f l. refl, (λ f l. not_free f, (λ f l. refl, (λ f l. refl, (λ f l. refl, (λ f l. refl, (λ f l. absurd (cc), (λ f l. not_free f, (λ f l. not_free f, tt))))))))))

can_take : (id : ℕ) (e : Entry) → slice_get arena id ≡ Some e → is_local e.node.kind ≡ true → CanTake arena e
can_take = each_at (λ id e. is_local e.node.kind ≡ true → CanTake arena e) arena
    (λ f. not_free f, (λ f. not_free f, (λ f. not_free f, (λ f. not_free f, (λ f. not_free f, (λ f. not_free f, (λ f. not_free f, (λ f. record { over = _; domain = refl; some = λ n e. cc }, (λ f. not_free f, (λ f. not_free f, tt))))))))))

is_truth : IsPart (record { sort = Truth; set = truths })
is_truth = record { truth = refl; canonical = over_truths.0; limited = over_truths.1 }

suited : AreParts (parts sample.vars)
suited = (is_truth, (record { truth = tt; canonical = over_one_or_two.0; limited = over_one_or_two.1 }, (record { truth = tt; canonical = over_one_or_two.0; limited = over_one_or_two.1 }, (is_truth, (is_truth, tt)))))

vars : AreModelVars sample.vars
unfolding place_count
vars = (
  record { allowed = λ h. refl; index = tt; count = refl; cells = (refl, tt) },
  (
    record { allowed = λ h. absurd (cc); index = tt; count = refl; cells = (refl, tt) },
    (record { allowed = λ h. refl; index = (λ e. cc, (record { ordered = inr (omega (arith, ints)); least = (omega (arith, ints), omega (arith, ints)); greatest = (omega (arith, ints), omega (arith, ints)) }, tt)); count = refl; cells = (refl, (refl, tt)) }, tt),
  ),
)

roots : AreTruths arena sample.roots
unfolding extents folded bool_extent variable_extent set_variable_extent comparison_extent end_of
roots = (refl, tt)

pub is_instance : IsInstance sample
is_instance = record { arena = is_arena; vars = vars; suited = suited; nodes = nodes; no_more = no_more; chosen = can_take; roots = roots; goal = tt }
