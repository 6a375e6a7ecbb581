-- The faults of types that are met first.
use Rattle.std.proofs.Common.{◌≡◌, ◌∙◌, ℕ, ◌+◌, ◌<◌, ◌≤◌, List, ◌++◌, Option, None, Result, Ok, Err, map, drop, length, get_or, ap, sym}
use Rattle.std.specs.List.{flat_map, enumerate_from}
use Rattle.std.proofs.Math.ListN.{drop_of_length-le}
use Rattle.mz_base.specs.declared.fault.Span.{Span}
use Rattle.mz_base.specs.declared.stop.Stop.{Stop}
use Rattle.mz_base.specs.declared.stop.Stop.TheVariants.{Refused, Memory}
use Rattle.mz_scope_order.specs.Scoped.{ScopedTree}
use Rattle.mz_check_meaning.specs.Tests.{Test}
use Rattle.mz_check_meaning.specs.Models.{Model}
use Rattle.mz_check_meaning.specs.Passes.{Passes}
use Rattle.mz_check_meaning.specs.Checks.{Met, met, numbered, type_met, heading_met, types_met, none_met}
use Rattle.mz_check.specs.StepsMeeting.{after, IsTested, test_of}
use Rattle.mz_check.proofs.Meeting.{after_both, none_met_is}
use Rattle.mz_check.proofs.Keeping.{split}

-- one test more
pub one_met : {A B : Type 0} (see : A → B) (r : Result A Stop) (t : Test B) (at : Span) (first next : Option Met) → Passes see r t → IsTested r at first next → next ≡ after first (met at t)
unfolding after
one_met see (Ok x) t at first next p n = n ∙ ap (λ (o : Test _). after first (met at o)) (sym p)
one_met see (Err (Refused f)) t at first next p n = n ∙ ap (λ (o : Test _). after first (met at o)) (sym p)
one_met see (Err Memory) t at first next p n = absurd n

-- one more of a numbered list is tested
pub next_met : {S X : Type 0} (go : ℕ × X → List Met) (view : S → X) (xs : List S) (i : ℕ) (x : S) (whole first next : Option Met)
    → whole ≡ after first (flat_map go (enumerate_from i (map view (drop i xs)))) → i < length xs → x ≡ get_or xs i x → next ≡ after first (go (i, view x)) → whole ≡ after next (flat_map go (enumerate_from (i + 1) (map view (drop (i + 1) xs))))
next_met go view xs i x whole first next h low is e =
    h ∙ ap (λ ys. after first (flat_map go (enumerate_from i (map view ys)))) (split xs i x low is)
    ∙ after_both first (go (i, view x)) (flat_map go (enumerate_from (i + 1) (map view (drop (i + 1) xs))))
    ∙ ap (λ (o : Option Met). after o (flat_map go (enumerate_from (i + 1) (map view (drop (i + 1) xs))))) (sym e)

pub all_met : {S X : Type 0} (go : ℕ × X → List Met) (view : S → X) (xs : List S) (i : ℕ) (whole first : Option Met) → whole ≡ after first (flat_map go (enumerate_from i (map view (drop i xs)))) → length xs ≤ i → first ≡ whole
unfolding after
all_met go view xs i whole first h past = sym (h ∙ ap (λ ys. after first (flat_map go (enumerate_from i (map view ys)))) (drop_of_length-le xs past))

-- the test of what is met first among the types
pub types_tested : (s : ScopedTree) (m : Model) (first last : Option Met) → first ≡ after None (flat_map (type_met m) (numbered s.decls)) → last ≡ after first (flat_map (heading_met m) (numbered s.functions)) → test_of last ≡ none_met (types_met s m)
unfolding types_met
types_tested s m first last f l =
    let types = flat_map (type_met m) (numbered s.decls) in
    let headings = flat_map (heading_met m) (numbered s.functions) in
    ap test_of (l ∙ ap (λ (o : Option Met). after o headings) f ∙ sym (after_both None types headings)) ∙ sym (none_met_is (types ++ headings))
