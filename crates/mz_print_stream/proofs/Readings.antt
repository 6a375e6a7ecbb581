-- Readings: there is one of all bytes, and as more bytes come, events are added to it.
use Rattle.std.proofs.Common.{◌≡◌, ℕ, zero, suc, ◌<◌, ◌≤◌, ◌+◌, List, [], ◌∷◌, ◌++◌, length, Bool, true, false, refl, sym, ap, ◌∙◌, arith, subst, Some, None}
use Rattle.fz_items.specs.Forms.{Form}
use Rattle.soln_reader.specs.Blocks.{Block}
use Rattle.soln_reader.specs.Stream.{Place, next_place, Event, Ending, Outcome, whole, bad, Stream, at_the_end, in_a_block, passes as passes_there, an_event as event_there, a_bad_line as bad_there, leaves, gives, is_bad, has_line, after_line, line_outcome}
use Rattle.soln_reader.proofs.CutLemmas.{some_line}
use Rattle.mz_print_stream.specs.Reading.{Close, bad_at, at_end, close_at, Reads, no_line, passes, an_event, a_bad_line, IsEnding, ReadsTheStream, HasOneReading, IsRead, EachIsRead, AddsEvents}
use Rattle.mz_print_stream.proofs.Lines.{leaves_not_bad, gives_not_bad, leaves_not_gives, block_left, event_given, both, line_takes, none_at_the_end, begins, rest_stays}

-- the stream

at_its_end : (fs : List Form) (p : Place) (b : Block) → p.block ≡ b → (y : Ending) × IsEnding (at_end p.lines b) y × Stream fs p [] [] y
at_its_end fs p None is = (whole, refl, at_the_end is)
at_its_end fs p (Some gs) is = (bad p.lines, refl, in_a_block is)

pub reads_the_stream : ReadsTheStream
reads_the_stream fs p bs es x (no_line h) =
    let S : List ℕ → Type 0 = λ cs. (y : Ending) × IsEnding (at_end p.lines p.block) y × Stream fs p cs [] y in
    subst S (sym (none_at_the_end bs h)) (at_its_end fs p p.block refl)
reads_the_stream fs p bs es x (passes line out r) =
    let s = reads_the_stream fs _ _ es x r in
    (s.0, s.1, passes_there (some_line true bs line) out s.2)
reads_the_stream fs p bs es x (an_event {es = ds} line out r) =
    let s = reads_the_stream fs _ _ ds x r in
    (s.0, s.1, event_there (some_line true bs line) out s.2)
reads_the_stream fs p bs es x (a_bad_line line out) = (bad (p.lines + 1), refl, bad_there (some_line true bs line) out)

-- what a reading is, by what the first line does
pub none_read : (fs : List Form) (ended : Bool) (p : Place) (bs : List ℕ) (es : List Event) (x : Close) → has_line ended bs ≡ false → Reads fs ended p bs es x → (es ≡ []) × (x ≡ close_at ended p)
none_read fs ended p bs es x h (no_line k) = (refl, refl)
none_read fs ended p bs es x h (passes line out r) = both _ line h
none_read fs ended p bs es x h (an_event line out r) = both _ line h
none_read fs ended p bs es x h (a_bad_line line out) = both _ line h

pub passing_read : (fs : List Form) (ended : Bool) (p : Place) (bs : List ℕ) (es : List Event) (x : Close) (b : Block) → has_line ended bs ≡ true → line_outcome fs p.block bs ≡ leaves b → Reads fs ended p bs es x → Reads fs ended (next_place p b) (after_line bs) es x
passing_read fs ended p bs es x b h is (no_line k) = both _ h k
passing_read fs ended p bs es x b h is (passes {b = c} line out r) = subst (λ d. Reads fs ended (next_place p d) (after_line bs) es x) (block_left c b (sym out ∙ is)) r
passing_read fs ended p bs es x b h is (an_event {e = e} line out r) = absurd (leaves_not_gives b e (sym is ∙ out))
passing_read fs ended p bs es x b h is (a_bad_line line out) = absurd (leaves_not_bad b (sym is ∙ out))

-- an event, and what is read after it
pub record First (fs : List Form) (ended : Bool) (p : Place) (bs : List ℕ) (e : Event) (es : List Event) (x : Close) : Type 0 where
  pub later : List Event
  pub is : es ≡ e ∷ later
  pub reads : Reads fs ended (next_place p None) bs later x

pub giving_read : (fs : List Form) (ended : Bool) (p : Place) (bs : List ℕ) (es : List Event) (x : Close) (e : Event) → has_line ended bs ≡ true → line_outcome fs p.block bs ≡ gives e → Reads fs ended p bs es x → First fs ended p (after_line bs) e es x
giving_read fs ended p bs es x e h is (no_line k) = both _ h k
giving_read fs ended p bs es x e h is (passes {b = b} line out r) = absurd (leaves_not_gives b e (sym out ∙ is))
giving_read fs ended p bs es x e h is (an_event {e = d} {es = ds} line out r) = record { later = ds; is = ap (λ k. k ∷ ds) (event_given d e (sym out ∙ is)); reads = r }
giving_read fs ended p bs es x e h is (a_bad_line line out) = absurd (gives_not_bad e (sym is ∙ out))

pub bad_read : (fs : List Form) (ended : Bool) (p : Place) (bs : List ℕ) (es : List Event) (x : Close) → has_line ended bs ≡ true → line_outcome fs p.block bs ≡ is_bad → Reads fs ended p bs es x → (es ≡ []) × (x ≡ bad_at (p.lines + 1))
bad_read fs ended p bs es x h is (no_line k) = both _ h k
bad_read fs ended p bs es x h is (passes {b = b} line out r) = absurd (leaves_not_bad b (sym out ∙ is))
bad_read fs ended p bs es x h is (an_event {e = e} line out r) = absurd (gives_not_bad e (sym out ∙ is))
bad_read fs ended p bs es x h is (a_bad_line line out) = (refl, refl)

-- one reading

pub one_reading : HasOneReading
one_reading fs ended p bs es ds x y (no_line h) s =
    let k = none_read fs ended p bs ds y h s in
    (sym k.0, sym k.1)
one_reading fs ended p bs es ds x y (passes {b = b} line out r) s = one_reading fs ended (next_place p b) (after_line bs) es ds x y r (passing_read fs ended p bs ds y b line out s)
one_reading fs ended p bs es ds x y (an_event {e = e} {es = more} line out r) s =
    let f = giving_read fs ended p bs ds y e line out s in
    let k = one_reading fs ended (next_place p None) (after_line bs) more f.later x y r f.reads in
    (ap (λ js. e ∷ js) k.0 ∙ sym f.is, k.1)
one_reading fs ended p bs es ds x y (a_bad_line line out) s =
    let k = bad_read fs ended p bs ds y line out s in
    (sym k.0, sym k.1)

-- some reading

by_outcome : (fs : List Form) (ended : Bool) (p : Place) (bs : List ℕ) (o : Outcome) → has_line ended bs ≡ true → line_outcome fs p.block bs ≡ o → ((q : Place) (cs : List ℕ) → length cs < length bs → IsRead fs ended q cs) → IsRead fs ended p bs
by_outcome fs ended p bs (leaves b) h is rest =
    let r = rest (next_place p b) (after_line bs) (line_takes ended bs h) in
    record { events = r.events; close = r.close; reads = passes h is r.reads }
by_outcome fs ended p bs (gives e) h is rest =
    let r = rest (next_place p None) (after_line bs) (line_takes ended bs h) in
    record { events = e ∷ r.events; close = r.close; reads = an_event h is r.reads }
by_outcome fs ended p bs is_bad h is rest = record { events = []; close = bad_at (p.lines + 1); reads = a_bad_line h is }

by_line : (fs : List Form) (ended : Bool) (p : Place) (bs : List ℕ) (t : Bool) → has_line ended bs ≡ t → ((q : Place) (cs : List ℕ) → length cs < length bs → IsRead fs ended q cs) → IsRead fs ended p bs
by_line fs ended p bs true h rest = by_outcome fs ended p bs (line_outcome fs p.block bs) h refl rest
by_line fs ended p bs false h rest = record { events = []; close = close_at ended p; reads = no_line h }

read_within : (n : ℕ) (fs : List Form) (ended : Bool) (p : Place) (bs : List ℕ) → length bs ≤ n → IsRead fs ended p bs
read_within zero fs ended p bs low = by_line fs ended p bs (has_line ended bs) refl (λ q cs less. absurd (omega (arith, low, less)))
read_within (suc n) fs ended p bs low = by_line fs ended p bs (has_line ended bs) refl (λ q cs less. read_within n fs ended q cs (omega (arith, low, less)))

pub each_is_read : EachIsRead
each_is_read fs ended p bs = read_within (length bs) fs ended p bs (omega arith)

-- a line, and more bytes after it

pub passes_on : (fs : List Form) (ended : Bool) (p : Place) (bs more : List ℕ) (b : Block) (es : List Event) (x : Close) → has_line false bs ≡ true → line_outcome fs p.block bs ≡ leaves b → Reads fs ended (next_place p b) (after_line bs ++ more) es x → Reads fs ended p (bs ++ more) es x
passes_on fs ended p bs more b es x line out r =
    let i = begins fs ended p.block bs more line in
    passes i.line (i.outcome ∙ out) (subst (λ cs. Reads fs ended (next_place p b) cs es x) (sym (rest_stays fs p.block bs more (leaves b) line out (leaves_not_bad b))) r)

pub gives_on : (fs : List Form) (ended : Bool) (p : Place) (bs more : List ℕ) (e : Event) (es : List Event) (x : Close) → has_line false bs ≡ true → line_outcome fs p.block bs ≡ gives e → Reads fs ended (next_place p None) (after_line bs ++ more) es x → Reads fs ended p (bs ++ more) (e ∷ es) x
gives_on fs ended p bs more e es x line out r =
    let i = begins fs ended p.block bs more line in
    an_event i.line (i.outcome ∙ out) (subst (λ cs. Reads fs ended (next_place p None) cs es x) (sym (rest_stays fs p.block bs more (gives e) line out (gives_not_bad e))) r)

pub bad_on : (fs : List Form) (ended : Bool) (p : Place) (bs more : List ℕ) → has_line false bs ≡ true → line_outcome fs p.block bs ≡ is_bad → Reads fs ended p (bs ++ more) [] (bad_at (p.lines + 1))
bad_on fs ended p bs more line out =
    let i = begins fs ended p.block bs more line in
    a_bad_line i.line (i.outcome ∙ out)

pub events_are_added : AddsEvents
events_are_added fs ended p bs more es ds x y (no_line h) s = (ds, refl)
events_are_added fs ended p bs more es ds x y (passes {b = b} line out r) s =
    let i = begins fs ended p.block bs more line in
    events_are_added fs ended (next_place p b) (after_line bs) more es ds x y r
    (subst (λ cs. Reads fs ended (next_place p b) cs ds y) (rest_stays fs p.block bs more (leaves b) line out (leaves_not_bad b)) (passing_read fs ended p (bs ++ more) ds y b i.line (i.outcome ∙ out) s))
events_are_added fs ended p bs more es ds x y (an_event {e = e} {es = fewer} line out r) s =
    let i = begins fs ended p.block bs more line in
    let f = giving_read fs ended p (bs ++ more) ds y e i.line (i.outcome ∙ out) s in
    let k = events_are_added fs ended (next_place p None) (after_line bs) more fewer f.later x y r
    (subst (λ cs. Reads fs ended (next_place p None) cs f.later y) (rest_stays fs p.block bs more (gives e) line out (gives_not_bad e)) f.reads) in
    (k.0, f.is ∙ ap (λ js. e ∷ js) k.1)
events_are_added fs ended p bs more es ds x y (a_bad_line line out) s = (ds, refl)
