-- The best of rows is a row.
use Rattle.std.proofs.Common.{◌≡◌, ℕ, zero, suc, List, [], ◌∷◌, Option, Some, None, Result, Ok, Err, ap, subst, map}
use Rattle.std.specs.Prelude.{slice_get, IfOk}
use Rattle.mz_base.specs.declared.fault.Span.{Span}
use Rattle.mz_base.specs.declared.kind.Kind.{Kind}
use Rattle.mz_base.specs.declared.kind.Kind.TheVariants as kind
use Rattle.mz_base.specs.declared.stop.Stop.{Stop}
use Rattle.mz_core.specs.Types.{PlainType}
use Rattle.mz_overload.specs.declared.resolution.Resolution.{Resolution}
use Rattle.mz_overload.specs.declared.resolution.Resolution.TheVariants.{One, NoneFits, Ambiguous}
use Rattle.mz_overload.specs.Best.{resolution}
use Rattle.mz_builtin.specs.Readings.{Numbered}
use Rattle.mz_builtin.specs.Signatures.{fitting}
use Rattle.mz_check_meaning.specs.Tests.{Test, found}
use Rattle.mz_check_meaning.specs.Passes.{Passes}
use Rattle.mz_check_meaning.specs.Calls.{Candidate, chosen, best, row_candidate, row_of}
use Rattle.mz_check_calls.specs.declared.pairs.Candidate.{Candidate as Found}
use Rattle.mz_check_calls.specs.Rows.{IsRow}
use Rattle.mz_check_calls.specs.Views.{candidate}

abbrev value_or : {A : Type 0} → A → Option A → A
value_or d None = d
value_or d (Some x) = x

abbrev passed_or : {A : Type 0} → A → Test A → A
passed_or d (Ok x) = x
passed_or d (Err f) = d

row_at : (rows : List Numbered) (k : ℕ) (c : Candidate) → slice_get (map row_candidate rows) k ≡ Some c → IsRow c.callee
row_at [] k c at = absurd (cc)
row_at (n ∷ rows) zero c at = subst (λ (d : Candidate). IsRow d.callee) (ap (value_or c) at) tt
row_at (n ∷ rows) (suc k) c at = row_at rows k c at

found_is : {A : Type 0} (why : Kind) (at : Span) (o : Option A) (x : A) → found why at o ≡ Ok x → o ≡ Some x
found_is why at None x h = absurd (cc)
found_is why at (Some y) x h = ap Some (ap (passed_or x) h)

chosen_row : (at : Span) (name : List ℕ) (args : List PlainType) (rows : List Numbered) (which : Resolution) (c : Candidate) → chosen at name args (map row_candidate rows) which ≡ Ok c → IsRow c.callee
chosen_row at name args rows (One k) c h = row_at rows k c (found_is kind.NoOverload at (slice_get (map row_candidate rows) k) c h)
chosen_row at name args rows NoneFits c h = absurd (cc)
chosen_row at name args rows Ambiguous c h = absurd (cc)

best_row : (at : Span) (name : List ℕ) (args : List PlainType) (rows : List Numbered) (c : Candidate) → best at name args (map row_candidate rows) ≡ Ok c → IsRow c.callee
unfolding best
best_row at name args rows c h = chosen_row at name args rows (resolution (map (λ d. d.signature) (map row_candidate rows)) args) c h

row_of_row : (at : Span) (name : List ℕ) (args : List PlainType) (c : Candidate) → row_of at name args ≡ Ok c → IsRow c.callee
unfolding row_of
row_of_row at name args c h = best_row at name args (fitting name args) c h

-- what passes as the row of a name is a row
pub passes_row : (at : Span) (name : List ℕ) (args : List PlainType) (r : Result Found Stop) → Passes candidate r (row_of at name args) → IfOk r (λ c. IsRow c.callee)
passes_row at name args (Ok c) h = row_of_row at name args (candidate c) h
passes_row at name args (Err s) h = tt
