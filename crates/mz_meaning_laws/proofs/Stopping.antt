-- Runs that stop at places of a kind: how they are joined, and the rows of operators and built-ins.
use Rattle.std.proofs.Common.{ℕ, zero, suc, ℤ, pos, Bool, true, false, List, [], ◌∷◌, Option, Some, None, if◌then◌else◌, nat_lt, ◌+◌, ◌++◌, not, map, unwrap_or}
use Rattle.std.specs.Option.{option_map}
use Rattle.std.specs.List.{list_all, AllByRecursion as AllBy}
use Rattle.mz_base.specs.declared.fault.Span.{Span}
use Rattle.mz_base.specs.declared.fault.Fault.{Fault}
use Rattle.mz_base.specs.declared.kind.Kind.{Kind}
use Rattle.mz_base.specs.declared.kind.Kind.TheVariants as kind
use Rattle.mz_interval.specs.Ends.{is_number}
use Rattle.mz_value.specs.Ranges.{Range}
use Rattle.mz_value.specs.Contents.{Content}
use Rattle.mz_value.specs.Shown.{Names}
use Rattle.mz_core.specs.declared.types.Base.{Base}
use Rattle.mz_core.specs.Types.{PlainType}
use Rattle.mz_operations.specs.declared.row.Row.{Row}
use Rattle.mz_operations.specs.Answers as answers
use Rattle.mz_operations.specs.Answers.{Answer as RowAnswer, Gives, Stops}
use Rattle.mz_operations.specs.Bounds.{Bounds}
use Rattle.mz_operations.specs.Bounds as bounds
use Rattle.mz_operations.specs.Arrays.{is_contiguous, place_count}
use Rattle.mz_operations.specs.RowBounds.{row_bounds}
use Rattle.mz_globals.specs.declared.global.Global.{Global}
use Rattle.mz_globals.specs.declared.checks.Refusal.{Refusal}
use Rattle.mz_globals.specs.declared.checks.Refusal.TheVariants.{Misfit, Negative, Outside}
use Rattle.mz_globals.specs.Table.{refusal_of}
use Rattle.mz_meaning.specs.Runs.{Run, State, Answer, Out, Stopped, then_do, give, stop, spend, loop, when, weigh, fault}
use Rattle.mz_meaning.specs.Cells.{Cell, Var, Mode, held, all_par, value_of, no_bounds, length_of}
use Rattle.mz_meaning.specs.Coerced.{recast}
use Rattle.mz_meaning.specs.Domains.{Domain}
use Rattle.mz_meaning.specs.Exact.{exact_value}
use Rattle.mz_meaning.specs.Operations as operations
use Rattle.mz_meaning.specs.Globals as globals
use Rattle.mz_meaning.specs.Arrays as arrays
use Rattle.mz_meaning.specs.Arrays.{Want, Anything, Missing, Within}
use Rattle.mz_meaning.specs.Lets as lets

module _ (P : Span → Type 0) where
  abbrev pub StopsAt : {A : Type 0} → Answer A → Type 0
  StopsAt (Out x s) = Unit {0}
  StopsAt (Stopped f) = P f.span

  -- a run that stops at such places alone
  pub record StopsThere {A : Type 0} (m : Run A) : Type 0 where
    pub by : (s : State) → StopsAt (m s)

  -- and that gives what is so
  abbrev pub StopsOr : {A : Type 0} → (A → Type 0) → Answer A → Type 0
  StopsOr Q (Out x s) = Q x
  StopsOr Q (Stopped f) = P f.span

  pub record GivesThere {A : Type 0} (Q : A → Type 0) (m : Run A) : Type 0 where
    pub by : (s : State) → StopsOr Q (m s)

  -- ---- joining

  then_stops : {A B : Type 0} (a : Answer A) (go : A → Run B) → StopsAt a → ((x : A) → StopsThere (go x)) → StopsAt (then_do a go)
  then_stops (Out x s) go h k = (k x).by s
  then_stops (Stopped f) go h k = h

  pub then_there : {A B : Type 0} {a : Run A} {go : A → Run B} → StopsThere a → ((x : A) → StopsThere (go x)) → StopsThere (λ s. then_do (a s) go)
  then_there {a = a} {go = go} h k = record { by = λ s. then_stops (a s) go (h.by s) k }

  with_stops : {A B : Type 0} (Q : A → Type 0) (a : Answer A) (go : A → Run B) → StopsOr Q a → ((x : A) → Q x → StopsThere (go x)) → StopsAt (then_do a go)
  with_stops Q (Out x s) go h k = (k x h).by s
  with_stops Q (Stopped f) go h k = h

  -- what is given counts
  pub with_there : {A B : Type 0} (Q : A → Type 0) {a : Run A} {go : A → Run B} → GivesThere Q a → ((x : A) → Q x → StopsThere (go x)) → StopsThere (λ s. then_do (a s) go)
  with_there Q {a = a} {go = go} h k = record { by = λ s. with_stops Q (a s) go (h.by s) k }

  gives_stops : {A B : Type 0} (R : B → Type 0) (a : Answer A) (go : A → Run B) → StopsAt a → ((x : A) → GivesThere R (go x)) → StopsOr R (then_do a go)
  gives_stops R (Out x s) go h k = (k x).by s
  gives_stops R (Stopped f) go h k = h

  pub gives_there : {A B : Type 0} (R : B → Type 0) {a : Run A} {go : A → Run B} → StopsThere a → ((x : A) → GivesThere R (go x)) → GivesThere R (λ s. then_do (a s) go)
  gives_there R {a = a} {go = go} h k = record { by = λ s. gives_stops R (a s) go (h.by s) k }

  both_stop : {A B : Type 0} (Q : A → Type 0) (R : B → Type 0) (a : Answer A) (go : A → Run B) → StopsOr Q a → ((x : A) → Q x → GivesThere R (go x)) → StopsOr R (then_do a go)
  both_stop Q R (Out x s) go h k = (k x h).by s
  both_stop Q R (Stopped f) go h k = h

  pub both_there : {A B : Type 0} (Q : A → Type 0) (R : B → Type 0) {a : Run A} {go : A → Run B} → GivesThere Q a → ((x : A) → Q x → GivesThere R (go x)) → GivesThere R (λ s. then_do (a s) go)
  both_there Q R {a = a} {go = go} h k = record { by = λ s. both_stop Q R (a s) go (h.by s) k }

  pub give_there : {A : Type 0} (x : A) → StopsThere (give x)
  give_there x = record { by = λ s. tt }

  pub given_there : {A : Type 0} (Q : A → Type 0) (x : A) → Q x → GivesThere Q (give x)
  given_there Q x h = record { by = λ s. h }

  pub stop_there : {A : Type 0} (k : Kind) (at : Span) (n : ℤ) → P at → StopsThere {A = A} (stop k at n)
  stop_there k at n p = record { by = λ s. p }

  abbrev more : State → ℕ → State
  more s n = record { work = s.work + n; taken = s.taken; weight = s.weight }

  spent : (t : Bool) (f : Fault) (s : State) → P f.span → StopsAt {A = Unit {0}} (if t then Stopped f else Out tt s)
  spent true f s p = p
  spent false f s p = tt

  pub spend_there : (b : ℕ) (at : Span) (n : ℕ) → P at → StopsThere (spend b at n)
  spend_there b at n p = record { by = λ s. spent (nat_lt b (s.work + n)) (fault kind.Budget at (pos (b + 1))) (more s n) p }

  pub loop_there : {A S : Type 0} (K : A → Type 0) (step : S → A → Run S) → ((acc : S) (x : A) → K x → StopsThere (step acc x)) → (acc : S) (xs : List A) → AllBy K xs → StopsThere (loop step acc xs)
  loop_there K step h acc [] ks = give_there acc
  loop_there K step h acc (x ∷ xs) ks = then_there (h acc x ks.0) (λ next. loop_there K step h next xs ks.1)

  -- whatever the elements are
  pub loop_anyway : {A S : Type 0} (step : S → A → Run S) → ((acc : S) (x : A) → StopsThere (step acc x)) → (acc : S) (xs : List A) → StopsThere (loop step acc xs)
  loop_anyway step h acc [] = give_there acc
  loop_anyway step h acc (x ∷ xs) = then_there (h acc x) (λ next. loop_anyway step h next xs)

  -- with what is kept so far
  pub loop_kept : {A S : Type 0} (Q : S → Type 0) (K : A → Type 0) (step : S → A → Run S) → ((acc : S) (x : A) → Q acc → K x → GivesThere Q (step acc x)) → (acc : S) (xs : List A) → Q acc → AllBy K xs → StopsThere (loop step acc xs)
  loop_kept Q K step h acc [] q ks = give_there acc
  loop_kept Q K step h acc (x ∷ xs) q ks = with_there Q (h acc x q ks.0) (λ next r. loop_kept Q K step h next xs r ks.1)

  pub if_there : {A : Type 0} (t : Bool) (a b : Run A) → StopsThere a → StopsThere b → StopsThere (if t then a else b)
  if_there true a b h k = h
  if_there false a b h k = k

  pub when_there : {A : Type 0} (t : Bool) (a b : Run A) → StopsThere a → StopsThere b → StopsThere (when t a b)
  when_there true a b h k = h
  when_there false a b h k = k

  pub weigh_there : (mode : Mode) (n : ℕ) → StopsThere (weigh mode n)
  weigh_there mode n = record { by = λ s. tt }

  -- ---- rows

  par_answer_there : (b : Base) (at : Span) (a : RowAnswer) → P at → StopsThere (operations.par_answer b at a)
  par_answer_there b at (Gives v) p = give_there _
  par_answer_there b at (Stops k n) p = stop_there k at n p

  par_row_there : (names : Names) (r : Row) (b : Base) (at : Span) (vs : List (Option Content)) → P at → StopsThere (operations.par_row names r b at vs)
  par_row_there names r b at vs p = par_answer_there b at (if operations.known_names names r vs then answers.answer names r vs else Gives None) p

  negative_there : (n : Option ℤ) (at : Span) (go : Run (Unit {0})) → P at → StopsThere go → StopsThere (operations.unless_negative n at go)
  negative_there None at go p h = h
  negative_there (Some n) at go p h = stop_there kind.NegativeArgument at n p

  tested_there : (r : Row) (at : Span) (vs : List (Option Content)) → P at → StopsThere (operations.tested r at vs)
  tested_there r at vs p =
      if_there (answers.is_mismatched r vs) _ _ (stop_there kind.IndexMismatch at (pos 0) p)
      (negative_there (answers.negative r vs) at _ p (if_there (answers.is_failed r vs) _ _ (stop_there kind.AssertFailed at (pos 0) p) (give_there tt)))

  limited_there : (at : Span) (b : Bounds) → P at → StopsThere (operations.limited at b)
  limited_there at (bounds.one (bounds.number e)) p =
      if_there (is_number e.0) _ _ (if_there (is_number e.1) _ _ (give_there _) (stop_there kind.Bounds at e.1 p)) (stop_there kind.Bounds at e.0 p)
  limited_there at (bounds.one (bounds.sets l u)) p = give_there _
  limited_there at (bounds.many ix bs) p = give_there _

  abbrev var_cell : Mode → Names → Row → PlainType → List Cell → Bounds → Cell
  var_cell mode names r t cs b = operations.with_shape r cs (Var b (held mode (option_map (recast t.base) (exact_value names r (map value_of cs)))))

  var_row_there : (mode : Mode) (names : Names) (r : Row) (t : PlainType) (at : Span) (cs : List Cell) → P at → StopsThere (operations.var_row mode names r t at cs)
  var_row_there mode names r t at cs p =
      then_there (tested_there r at _ p) (λ u. then_there (limited_there at (unwrap_or (row_bounds r (operations.argument_bounds r cs)) (no_bounds t)) p) (λ b. give_there (var_cell mode names r t cs b)))

  pub row_cell_there : (mode : Mode) (names : Names) (r : Row) (t : PlainType) (at : Span) (cs : List Cell) → P at → StopsThere (operations.row_cell mode names r t at cs)
  row_cell_there mode names r t at cs p =
      if_there (all_par cs) _ _ (par_row_there names r t.base at (map value_of cs) p) (if_there (operations.reads_bounds r) _ _ (give_there _) (var_row_there mode names r t at cs p))

  -- ---- globals

  refused_there : (r : Option Refusal) (at : Span) → P at → StopsThere (globals.refused r at)
  refused_there None at p = give_there tt
  refused_there (Some Misfit) at p = stop_there kind.IndexMismatch at (pos 0) p
  refused_there (Some (Negative n)) at p = stop_there kind.NegativeArgument at n p
  refused_there (Some (Outside n)) at p = stop_there kind.Bounds at n p

  pub global_cell_there : (mode : Mode) (g : Global) (at : Span) (cs : List Cell) → P at → StopsThere (globals.global_cell mode g at cs)
  global_cell_there mode g at cs p = then_there (refused_there (refusal_of g (map globals.given_in cs)) at p) (λ u. give_there (globals.global_result mode g cs))

  -- ---- arrays

  pub table_cell_there : (mode : Mode) (at : Span) (rs : List (List Cell)) → P at → StopsThere (arrays.table_cell mode at rs)
  table_cell_there mode at rs p = if_there (arrays.par_undefined (arrays.joined rs)) _ _ (give_there _) (if_there (arrays.are_level rs) _ _ (give_there _) (stop_there kind.IndexMismatch at (pos 0) p))

  branches_cell_there : (mode : Mode) (t : PlainType) (at : Span) (bs : List Bounds) (v : Option Content) → P at → StopsThere (arrays.branches_cell mode t at bs v)
  branches_cell_there mode t at [] v p = give_there _
  branches_cell_there mode t at (b ∷ bs) v p = if_there (list_all (arrays.same_shape b) bs) _ _ (give_there _) (stop_there kind.IndexMismatch at (pos 0) p)

  pub branch_cell_there : (mode : Mode) (t : PlainType) (at : Span) (ps : List (Cell × Cell)) (last : Cell) → P at → StopsThere (arrays.branch_cell mode t at ps last)
  branch_cell_there mode t at ps last p = if_there (not t.var) _ _ (give_there last) (branches_cell_there mode t at (arrays.all_bounds (map (arrays.branch_bounds_of t) (map (λ c. c.1) ps ++ last ∷ []))) (arrays.chosen_value ps last) p)

  pub contiguous_there : (at : Span) (s : Option (List Range)) → P at → StopsThere (lets.contiguous at s)
  contiguous_there at None p = give_there _
  contiguous_there at (Some s) p = if_there (is_contiguous s) _ _ (give_there _) (stop_there kind.IndexMismatch at (pos 0) p)

  fitted_to_there : (at : Span) (xs : List Want) (own : List Range) (n : Option ℕ) (c : Cell) → P at → StopsThere (arrays.fitted_to at xs own n c)
  fitted_to_there at xs own None c p = give_there c
  fitted_to_there at xs own (Some n) c p = if_there (arrays.fits_shape xs own n) _ _ (give_there _) (stop_there kind.IndexMismatch at (pos 0) p)

  pub fitted_there : (at : Span) (xs : List Want) (c : Cell) → P at → StopsThere (arrays.fitted at xs c)
  fitted_there at [] c p = give_there c
  fitted_there at (x ∷ xs) c p = if_there (arrays.no_missing (x ∷ xs)) _ _ (fitted_to_there at (x ∷ xs) (arrays.own_ranges c) (length_of c) c p) (give_there c)

  -- ---- free locals

  choose_there : (mode : Mode) (t : PlainType) (d : Option Domain) → StopsThere (lets.choose mode t d)
  choose_there mode t None = give_there _
  choose_there mode t (Some d) = record { by = λ s. tt }

  choose_places_there : (mode : Mode) (t : PlainType) (ix : List Range) (n : ℕ) (d : Option Domain) → StopsThere (lets.choose_places mode t ix n d)
  choose_places_there mode t ix zero d = give_there _
  choose_places_there mode t ix (suc n) None = give_there _
  choose_places_there mode t ix (suc n) (Some d) = record { by = λ s. tt }

  free_array_there : (mode : Mode) (t : PlainType) (ix : List Range) (x : Want) (d : Option Domain) → StopsThere (lets.free_array mode t ix x d)
  free_array_there mode t ix Anything d = choose_places_there mode t ix (place_count ix) d
  free_array_there mode t ix Missing d = give_there _
  free_array_there mode t ix (Within u) d = choose_places_there mode t ix (place_count ix) d

  pub chosen_there : (mode : Mode) (n : ℤ) (t : PlainType) (ixs : List Want) (x : Want) → StopsThere (lets.chosen mode n t ixs x)
  chosen_there mode n t [] x = choose_there mode t (lets.unless_empty (lets.local_domain n t x))
  chosen_there mode n t (r ∷ rs) x = if_there (lets.all_declared (r ∷ rs)) _ _ (free_array_there mode t (arrays.declared_ranges (r ∷ rs) []) x (lets.unless_empty (lets.local_domain n t x))) (give_there _)
