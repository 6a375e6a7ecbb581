-- What is written of events, and of these with more events after them.
use Rattle.std.proofs.Common.{◌≡◌, ℕ, ◌+◌, List, [], ◌∷◌, ◌++◌, refl, sym, ap, ◌∙◌, Some, None, append_assoc}
use Rattle.std.proofs.lemmas.List.{append-nil}
use Rattle.mz_base.specs.declared.fault.Fault.{Fault}
use Rattle.mz_value.specs.Contents.{Content}
use Rattle.soln_reader.specs.Stream.{Event, block, mark, mark_of}
use Rattle.soln_reader.specs.declared.next.Mark.{Mark}
use Rattle.soln_reader.specs.declared.next.Mark.TheVariants.{Complete, Unsatisfiable, Unknown, Unbounded, UnsatOrUnbounded, Error}
use Rattle.mz_print_stream.specs.Reading.{first_place}
use Rattle.mz_print_stream.specs.Printing.{Text, says, refuses, Texts, Written, before, block_before, block_lines, mark_line, output, end_by, HasOnePrinting, MarksAreRead}
use Rattle.mz_print_stream.proofs.Readings.{one_reading}

pub one_printing : HasOnePrinting
one_printing ts fs limit stream out other x y p q =
    let r = one_reading fs _ first_place _ p.events q.events p.close q.close p.reads q.reads in (
      p.bytes ∙ (ap (λ es. (output ts 0 es).bytes) r.0 ∙ sym q.bytes),
      p.ends ∙ (ap (λ es. end_by (output ts 0 es).fault p.close) r.0 ∙ (ap (λ c. end_by (output ts 0 q.events).fault c) r.1 ∙ sym q.ends)),
    )

pub marks_are_read : MarksAreRead
unfolding mark_of
marks_are_read Complete = refl
marks_are_read Unsatisfiable = refl
marks_are_read Unknown = refl
marks_are_read Unbounded = refl
marks_are_read UnsatOrUnbounded = refl
marks_are_read Error = refl

some_none : (f : Fault) → Some f ≡ None → ⊥
some_none f h = cc

before_twice : (xs ys : List ℕ) (w : Written) → before xs (before ys w) ≡ before (xs ++ ys) w
before_twice xs ys w = ap (λ bs. record { bytes = bs; blocks = w.blocks; fault = w.fault }) (sym (append_assoc xs ys w.bytes))

-- more events after some of which no text is refused

more_after_block : (ts : Texts) (t : Text) (n : ℕ) (ds : List Event) (w all : Written) → (w.fault ≡ None → all ≡ before w.bytes (output ts w.blocks ds)) → (block_before t n w).fault ≡ None → block_before t n all ≡ before (block_before t n w).bytes (output ts (block_before t n w).blocks ds)
more_after_block ts (says t) n ds w all on h = ap (λ v. before (block_lines t) v) (on h) ∙ before_twice (block_lines t) w.bytes (output ts w.blocks ds)
more_after_block ts (refuses f) n ds w all on h = absurd (some_none f h)

pub output_then : (ts : Texts) (n : ℕ) (es ds : List Event) → (output ts n es).fault ≡ None → output ts n (es ++ ds) ≡ before (output ts n es).bytes (output ts (output ts n es).blocks ds)
unfolding output
output_then ts n [] ds h = refl
output_then ts n (block xs ∷ es) ds h = more_after_block ts (ts xs (n + 1)) (n + 1) ds (output ts (n + 1) es) (output ts (n + 1) (es ++ ds)) (output_then ts (n + 1) es ds) h
output_then ts n (mark m ∷ es) ds h = ap (λ v. before (mark_line m) v) (output_then ts n es ds h) ∙ before_twice (mark_line m) (output ts n es).bytes (output ts (output ts n es).blocks ds)

-- the bytes of all begin with those of the first

prefix_of_block : (t : Text) (n : ℕ) (w all : Written) → (back : List ℕ) × (all.bytes ≡ w.bytes ++ back) → (back : List ℕ) × ((block_before t n all).bytes ≡ (block_before t n w).bytes ++ back)
prefix_of_block (says t) n w all p = (p.0, ap (λ bs. block_lines t ++ bs) p.1 ∙ sym (append_assoc (block_lines t) w.bytes p.0))
prefix_of_block (refuses f) n w all p = ([], refl)

pub output_begins : (ts : Texts) (n : ℕ) (es ds : List Event) → (back : List ℕ) × ((output ts n (es ++ ds)).bytes ≡ (output ts n es).bytes ++ back)
unfolding output
output_begins ts n [] ds = ((output ts n ds).bytes, refl)
output_begins ts n (block xs ∷ es) ds = prefix_of_block (ts xs (n + 1)) (n + 1) (output ts (n + 1) es) (output ts (n + 1) (es ++ ds)) (output_begins ts (n + 1) es ds)
output_begins ts n (mark m ∷ es) ds =
    let p = output_begins ts n es ds in
    (p.0, ap (λ bs. mark_line m ++ bs) p.1 ∙ sym (append_assoc (mark_line m) (output ts n es).bytes p.0))

-- one event more

pub block_output : (ts : Texts) (n : ℕ) (xs : List Content) (t : List ℕ) → ts xs (n + 1) ≡ says t → output ts n (block xs ∷ []) ≡ record { bytes = block_lines t; blocks = n + 1; fault = None }
unfolding output
block_output ts n xs t is = ap (λ x. block_before x (n + 1) (output ts (n + 1) [])) is ∙ ap (λ bs. record { bytes = bs; blocks = n + 1; fault = None }) (append-nil (block_lines t))

pub mark_output : (ts : Texts) (n : ℕ) (m : Mark) → output ts n (mark m ∷ []) ≡ record { bytes = mark_line m; blocks = n; fault = None }
unfolding output
mark_output ts n m = ap (λ bs. record { bytes = bs; blocks = n; fault = None }) (append-nil (mark_line m))

-- a refused text, whichever events come after it
pub refused_output : (ts : Texts) (n : ℕ) (xs : List Content) (f : Fault) (ds : List Event) → ts xs (n + 1) ≡ refuses f → output ts n (block xs ∷ ds) ≡ record { bytes = []; blocks = n + 1; fault = Some f }
unfolding output
refused_output ts n xs f ds is = ap (λ x. block_before x (n + 1) (output ts (n + 1) ds)) is

pub no_output : (ts : Texts) (n : ℕ) → output ts n [] ≡ record { bytes = []; blocks = n; fault = None }
unfolding output
no_output ts n = refl
