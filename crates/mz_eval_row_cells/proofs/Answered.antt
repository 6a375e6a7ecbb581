-- What the lines on values answer, as cells.
use Rattle.std.proofs.Common.{◌≡◌, refl, sym, ap, subst, ◌∙◌}
use Rattle.std.specs.Prelude.{pos, true, Option}
use Rattle.std.specs.Option.{option_map}
use Rattle.mz_base.specs.declared.fault.Span.{Span}
use Rattle.mz_base.specs.declared.fault.Fault.{Fault}
use Rattle.mz_base.specs.declared.kind.Kind.TheVariants.{AssertFailed}
use Rattle.mz_value.specs.Contents.{Content}
use Rattle.mz_value.specs.Shown.{Names}
use Rattle.mz_core.specs.declared.types.Base.{Base}
use Rattle.mz_operations.specs.declared.row.ScalarRow.TheVariants.{Assert}
use Rattle.mz_operations.specs.declared.row.MadeRow.TheVariants.{AssertValue, AssertArray}
use Rattle.mz_operations.specs.declared.row.Row.{Row}
use Rattle.mz_operations.specs.declared.row.Row.TheVariants.{Scalar, Made}
use Rattle.mz_operations.specs.Arguments.{Arguments}
use Rattle.mz_operations.specs.Answers.{Answer, Gives, Stops, answer, is_mismatched, negative, is_failed}
use Rattle.mz_meaning.specs.Runs.{State, Out, Stopped}
use Rattle.mz_meaning.specs.Cells.{Cell, Par}
use Rattle.mz_meaning.specs.Coerced.{recast}
use Rattle.mz_meaning.specs.Operations.{par_answer}
use Rattle.std.specs.Prelude.{Result, Ok, Err, IsErrAnd}
use Rattle.mz_base.specs.declared.stop.Stop.{Stop}
use Rattle.mz_base.specs.declared.stop.Stop.TheVariants.{Refused, Memory}
use Rattle.mz_value.specs.declared.value.Value.{Value}
use Rattle.mz_value.specs.Contents.{content}
use Rattle.mz_builtin_apply.specs.Applied.{Answers}
use Rattle.mz_eval_cells.specs.declared.types.Known.{Known}
use Rattle.mz_eval_cells.specs.Views.{cell_of}
use Rattle.mz_eval_cells.specs.Meets.{Tells}
use Rattle.mz_base.specs.Faults.{fault_at}

pub given : (b : Base) (at : Span) (a : Answer) (v : Option Content) (c : Cell) (s : State) → a ≡ Gives v → c ≡ Par (option_map (recast b) v) → par_answer b at a s ≡ Out c s
given b at a v c s e h = ap (λ x. par_answer b at x s) e ∙ ap (λ x. Out x s) (sym h)

pub refused : (b : Base) (at : Span) (a : Answer) (f : Fault) (s : State) → a ≡ Stops f.kind f.number → f.span ≡ at → par_answer b at a s ≡ Stopped f
refused b at a f s e p = ap (λ x. par_answer b at x s) e ∙ ap (λ x. par_answer b x (Stops f.kind f.number) s) (sym p)

pub failed : (names : Names) (row : Row) (args : Arguments) → is_failed row args ≡ true → answer names row args ≡ Stops AssertFailed (pos 0)
unfolding is_failed is_mismatched negative
failed names (Scalar Assert) args h = rw h refl
failed names (Made AssertValue) args h = rw h refl
failed names (Made AssertArray) args h = rw h refl
failed names row args h = absurd (cc)

pub told_given : (b : Base) (at : Span) (a : Answer) (v : Option Value) (k : Known) → a ≡ Gives (option_map content v) → cell_of k ≡ Par (option_map (recast b) (option_map content v)) → Tells cell_of (Ok k) (par_answer b at a)
told_given b at a v k e h = record { by = λ s. given b at a (option_map content v) (cell_of k) s e h }

pub told_refused : (b : Base) (at : Span) (a : Answer) (e : Stop) → Answers (Err e) at a → Tells {A = Known} cell_of (Err e) (par_answer b at a)
told_refused b at a (Refused f) h = record { by = λ s. refused b at a f s h.0 h.1 }
told_refused b at a Memory h = record { by = λ s. tt }

pub failed_told : (names : Names) (row : Row) (b : Base) (at : Span) (args : Arguments) (f : Fault) → is_failed row args ≡ true → f ≡ fault_at AssertFailed at → Tells {A = Known} cell_of (Err (Refused f)) (par_answer b at (answer names row args))
failed_told names row b at args f h e = record { by = λ s. ap (λ a. par_answer b at a s) (failed names row args h) ∙ ap Stopped (sym e) }

pub told_ends : (b : Base) (at : Span) (a : Answer) (r : Result Known Stop) (e : Stop) → IsErrAnd r (λ d. d ≡ e) → Answers (Err e) at a → Tells cell_of r (par_answer b at a)
told_ends b at a (Ok k) e i h = absurd i
told_ends b at a (Err d) e i h = subst (λ z. Tells {A = Known} cell_of (Err z) (par_answer b at a)) (sym i) (told_refused b at a e h)
