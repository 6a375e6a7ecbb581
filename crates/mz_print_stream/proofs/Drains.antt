-- A drain, event by event.
use Rattle.std.proofs.Common.{◌≡◌, ℕ, ◌≤◌, ◌+◌, List, [], ◌∷◌, ◌++◌, length, Bool, true, false, refl, sym, ap, ◌∙◌, arith, subst, Some, None, append_assoc, Result, Ok, Err, inl, inr}
use Rattle.std.proofs.lemmas.List.{append-nil}
use Rattle.mz_base.specs.declared.fault.Fault.{Fault}
use Rattle.mz_io.specs.Sink.{Held, SinkCounts, Adds, AddsPrefix}
use Rattle.mz_value.specs.Contents.{Content}
use Rattle.soln_reader.specs.declared.next.Mark.{Mark}
use Rattle.soln_reader.specs.Stream.{Event, block, mark}
use Rattle.soln_reader.specs.Reader.{State, GivesEvent, Needs, Ends, FindsBad, bad_line}
use Rattle.mz_print_stream.specs.Printing.{Texts, before, block_lines, mark_line, output}
use Rattle.mz_print_stream.specs.Promises.{CountsOut}
use Rattle.mz_print_stream.specs.StepsDrain.{none_yet, one_more, Drained, CutIn, Drain, Drains, IsFew, Keeps, Sends, SendsBlock, CountsSent}
use Rattle.mz_print_stream.specs.declared.printed.Printed.{Printed}
use Rattle.mz_print_stream.specs.declared.printed.Printed.TheVariants as printed
use Rattle.mz_print_stream.proofs.Feeding.{event_takes, need_takes, bad_takes}
use Rattle.mz_print_stream.proofs.Outputs.{output_then, block_output, mark_output, no_output}

-- a sink

pub adds_nothing : (h : Held) → Adds h h []
adds_nothing None = refl
adds_nothing (Some xs) = ap Some (sym (append-nil xs))

pub adds_more : (old mid new : Held) (xs ys : List ℕ) → Adds old mid xs → Adds mid new ys → Adds old new (xs ++ ys)
adds_more None mid new xs ys a b = subst (λ h. Adds h new ys) a b
adds_more (Some os) mid new xs ys a b = subst (λ h. Adds h new ys) a b ∙ ap Some (append_assoc os xs ys)

pub prefix_more : (old mid new : Held) (xs ys : List ℕ) → Adds old mid xs → AddsPrefix mid new ys → AddsPrefix old new (xs ++ ys)
prefix_more old mid new xs ys a b = record {
  prefix = xs ++ b.prefix;
  back = b.back;
  whole = ap (λ zs. xs ++ zs) b.whole ∙ sym (append_assoc xs b.prefix b.back);
  adds = adds_more old mid new xs b.prefix a b.adds;
}

-- events

-- what one event writes, with the number of blocks after it
IsOne : Texts → ℕ → Event → List ℕ → ℕ → Type 0
IsOne ts m e bs k = output ts m (e ∷ []) ≡ record { bytes = bs; blocks = k; fault = None }

then_one : (ts : Texts) (n m k : ℕ) (es : List Event) (e : Event) (bs : List ℕ) → (output ts n es).fault ≡ None → m ≡ (output ts n es).blocks → IsOne ts m e bs k → output ts n (es ++ e ∷ []) ≡ record { bytes = (output ts n es).bytes ++ bs; blocks = k; fault = None }
unfolding IsOne
then_one ts n m k es e bs on is one =
    output_then ts n es (e ∷ []) on
    ∙ (ap (λ j. before (output ts n es).bytes (output ts j (e ∷ []))) (sym is)
    ∙ ap (λ w. before (output ts n es).bytes w) one)

drained_none : (ts : Texts) (ended : Bool) (s : State) (n : ℕ) (h : Held) → Drained ts ended s n h [] s n h
drained_none ts ended s n h =
    let is = no_output ts n in
    record {
      given = none_yet;
      goes_on = ap (λ w. w.fault) is;
      blocks = sym (ap (λ w. w.blocks) is);
      adds = subst (λ bs. Adds h h bs) (sym (ap (λ w. w.bytes) is)) (adds_nothing h);
    }

drained_one : (ts : Texts) (ended : Bool) (s : State) (n : ℕ) (old : Held) (es : List Event) (u v : State) (m k : ℕ) (mid new : Held) (e : Event) (bs : List ℕ) → Drained ts ended s n old es u m mid → GivesEvent ended u e v → IsOne ts m e bs k → Adds mid new bs → Drained ts ended s n old (es ++ e ∷ []) v k new
drained_one ts ended s n old es u v m k mid new e bs d g one a =
    let is = then_one ts n m k es e bs d.goes_on d.blocks one in
    record {
      given = one_more d.given g;
      goes_on = ap (λ w. w.fault) is;
      blocks = sym (ap (λ w. w.blocks) is);
      adds = subst (λ cs. Adds old new cs) (sym (ap (λ w. w.bytes) is)) (adds_more old mid new (output ts n es).bytes bs d.adds a);
    }

cut_one : (ts : Texts) (ended : Bool) (s : State) (n : ℕ) (old : Held) (es : List Event) (u v : State) (m k : ℕ) (mid new : Held) (e : Event) (bs : List ℕ) → Drained ts ended s n old es u m mid → GivesEvent ended u e v → IsOne ts m e bs k → AddsPrefix mid new bs → CutIn ts ended s n old new
cut_one ts ended s n old es u v m k mid new e bs d g one a =
    let is = then_one ts n m k es e bs d.goes_on d.blocks one in
    record {
      events = es ++ e ∷ [];
      after = v;
      given = one_more d.given g;
      adds = subst (λ cs. AddsPrefix old new cs) (sym (ap (λ w. w.bytes) is)) (prefix_more old mid new (output ts n es).bytes bs d.adds a);
    }

-- the loop

few_none : (s : State) (n : ℕ) → IsFew s n s n
few_none s n = record { blocks = omega arith; lines = omega arith }

pub keeps_none : (ts : Texts) (ended : Bool) (s : State) (n : ℕ) (h : Held) → Keeps ts ended s n h s n h
keeps_none ts ended s n h = record { events = []; drained = drained_none ts ended s n h; few = few_none s n }

-- an event takes a byte or more
pub few_event : (ended : Bool) (s u v : State) (n m k : ℕ) (e : Event) → IsFew s n u m → GivesEvent ended u e v → k ≤ m + 1 → v.lines + length v.bytes ≤ u.lines + length u.bytes → IsFew s n v k
few_event ended s u v n m k e f g low less = record { blocks = omega (arith, f.blocks, event_takes ended u v e g); lines = omega (arith, f.lines) }

pub few_rest : (s u v : State) (n m : ℕ) → IsFew s n u m → length v.bytes ≤ length u.bytes → v.lines + length v.bytes ≤ u.lines + length u.bytes → IsFew s n v m
few_rest s u v n m f takes less = record { blocks = omega (arith, f.blocks); lines = omega (arith, f.lines) }

pub few_need : (ended : Bool) (s u v : State) (n m : ℕ) → IsFew s n u m → Needs ended u v → v.lines + length v.bytes ≤ u.lines + length u.bytes → IsFew s n v m
few_need ended s u v n m f needs less = few_rest s u v n m f (need_takes ended u v needs) less

ends_empty : (ended : Bool) (u v : State) → Ends ended u v → length v.bytes ≤ length u.bytes
ends_empty ended u v e =
    let l : length v.bytes ≡ 0 = ap (λ w. length w.bytes) e.after in
    omega (arith, l)

pub few_end : (ended : Bool) (s u v : State) (n m : ℕ) → IsFew s n u m → Ends ended u v → v.lines + length v.bytes ≤ u.lines + length u.bytes → IsFew s n v m
few_end ended s u v n m f ends less = few_rest s u v n m f (ends_empty ended u v ends) less

pub few_bad : (ended : Bool) (s u v : State) (n m k : ℕ) → IsFew s n u m → FindsBad ended u k v → v.lines + length v.bytes ≤ u.lines + length u.bytes → IsFew s n v m
few_bad ended s u v n m k f b less = few_rest s u v n m f (bad_takes ended u v k b) less

-- what goes out

abbrev stopped : (ts : Texts) (ended : Bool) (s : State) (n : ℕ) (old : Held) (u : State) (m : ℕ) (mid new : Held) → Keeps ts ended s n old u m mid → new ≡ mid → Drain ts ended s n old new
stopped ts ended s n old u m mid new k is = record { events = k.events; at = u; blocks = m; drained = subst (λ h. Drained ts ended s n old k.events u m h) (sym is) k.drained }

pub block_stops : (ts : Texts) (ended : Bool) (s : State) (n : ℕ) (old : Held) (u v : State) (m : ℕ) (mid new : Held) (xs : List Content) (end : Printed) → Keeps ts ended s n old u m mid → GivesEvent ended u (block xs) v → SendsBlock (ts xs (m + 1)) mid new (Err end) → Drains ts ended s n old v (m + 1) new (Err end)
unfolding IsOne
block_stops ts ended s n old u v m mid new xs (printed.Refused f) keeps g sends = (stopped ts ended s n old u m mid new keeps sends.1, inr (xs, v, g, sends.0))
block_stops ts ended s n old u v m mid new xs printed.WriteFault keeps g sends = cut_one ts ended s n old keeps.events u v m (m + 1) mid new (block xs) (block_lines sends.0) keeps.drained g (block_output ts m xs sends.0 sends.1) sends.2
block_stops ts ended s n old u v m mid new xs printed.Memory keeps g sends = stopped ts ended s n old u m mid new keeps sends
block_stops ts ended s n old u v m mid new xs printed.Done keeps g sends = absurd sends
block_stops ts ended s n old u v m mid new xs printed.ReadFault keeps g sends = absurd sends

pub mark_stops : (ts : Texts) (ended : Bool) (s : State) (n : ℕ) (old : Held) (u v : State) (m : ℕ) (mid new : Held) (j : Mark) (end : Printed) → Keeps ts ended s n old u m mid → GivesEvent ended u (mark j) v → Sends (mark_line j) mid new (Err end) → Drains ts ended s n old v m new (Err end)
unfolding IsOne
mark_stops ts ended s n old u v m mid new j (printed.Refused f) keeps g sends = absurd sends
mark_stops ts ended s n old u v m mid new j printed.WriteFault keeps g sends = cut_one ts ended s n old keeps.events u v m m mid new (mark j) (mark_line j) keeps.drained g (mark_output ts m j) sends
mark_stops ts ended s n old u v m mid new j printed.Memory keeps g sends = stopped ts ended s n old u m mid new keeps sends
mark_stops ts ended s n old u v m mid new j printed.Done keeps g sends = absurd sends
mark_stops ts ended s n old u v m mid new j printed.ReadFault keeps g sends = absurd sends

pub bad_stops : (ts : Texts) (ended : Bool) (s : State) (n : ℕ) (old : Held) (u v : State) (m : ℕ) (mid : Held) (f : Fault) → Keeps ts ended s n old u m mid → (j : ℕ) × (f ≡ bad_line j) × FindsBad ended u j v → Drains ts ended s n old v m mid (Err (printed.Refused f))
bad_stops ts ended s n old u v m mid f keeps b = (stopped ts ended s n old u m mid mid keeps refl, inl (b.0, v, b.1, b.2))

pub need_waits : (ts : Texts) (ended : Bool) (s : State) (n : ℕ) (old : Held) (u v : State) (m : ℕ) (mid : Held) (x : Unit {0}) → Keeps ts ended s n old u m mid → Needs ended u v → Drains ts ended s n old v m mid (Ok x)
need_waits ts false s n old u v m mid x keeps needs = (keeps.events, u, keeps.drained, needs)
need_waits ts true s n old u v m mid x keeps needs = absurd (not_going_on needs.going_on)
  where
    not_going_on : true ≡ false → ⊥
    not_going_on h = cc

pub end_waits : (ts : Texts) (ended : Bool) (s : State) (n : ℕ) (old : Held) (u v : State) (m : ℕ) (mid : Held) (x : Unit {0}) → Keeps ts ended s n old u m mid → Ends ended u v → Drains ts ended s n old v m mid (Ok x)
end_waits ts true s n old u v m mid x keeps ends = (keeps.events, u, keeps.drained, ends)
end_waits ts false s n old u v m mid x keeps ends = absurd (not_over ends.over)
  where
    not_over : false ≡ true → ⊥
    not_over h = cc

pub block_goes : (ts : Texts) (ended : Bool) (s : State) (n : ℕ) (old : Held) (u v : State) (m : ℕ) (mid new : Held) (xs : List Content) (r : Result (Unit {0}) Printed) → ((end : Printed) → r ≡ Err end → ⊥) → Keeps ts ended s n old u m mid → GivesEvent ended u (block xs) v → v.lines + length v.bytes ≤ u.lines + length u.bytes → SendsBlock (ts xs (m + 1)) mid new r → Keeps ts ended s n old v (m + 1) new
unfolding IsOne
block_goes ts ended s n old u v m mid new xs (Ok x) ok keeps g less sends = record {
  events = keeps.events ++ block xs ∷ [];
  drained = drained_one ts ended s n old keeps.events u v m (m + 1) mid new (block xs) (block_lines sends.0) keeps.drained g (block_output ts m xs sends.0 sends.1) sends.2;
  few = few_event ended s u v n m (m + 1) (block xs) keeps.few g (omega arith) less;
}
block_goes ts ended s n old u v m mid new xs (Err end) ok keeps g less sends = absurd (ok end refl)

pub mark_goes : (ts : Texts) (ended : Bool) (s : State) (n : ℕ) (old : Held) (u v : State) (m : ℕ) (mid new : Held) (j : Mark) (r : Result (Unit {0}) Printed) → ((end : Printed) → r ≡ Err end → ⊥) → Keeps ts ended s n old u m mid → GivesEvent ended u (mark j) v → v.lines + length v.bytes ≤ u.lines + length u.bytes → Sends (mark_line j) mid new r → Keeps ts ended s n old v m new
unfolding IsOne
mark_goes ts ended s n old u v m mid new j (Ok x) ok keeps g less sends = record {
  events = keeps.events ++ mark j ∷ [];
  drained = drained_one ts ended s n old keeps.events u v m m mid new (mark j) (mark_line j) keeps.drained g (mark_output ts m j) sends;
  few = few_event ended s u v n m m (mark j) keeps.few g (omega arith) less;
}
mark_goes ts ended s n old u v m mid new j (Err end) ok keeps g less sends = absurd (ok end refl)

-- counts

pub counts_go : (old mid new : SinkCounts) (r : Result (Unit {0}) Printed) → ((end : Printed) → r ≡ Err end → ⊥) → mid ≡ old → CountsSent mid new r → new ≡ old
counts_go old mid new (Ok x) ok is c = c ∙ is
counts_go old mid new (Err end) ok is c = absurd (ok end refl)

pub counts_stop : (old mid new : SinkCounts) (end : Printed) → mid ≡ old → CountsOut mid new end → CountsOut old new end
counts_stop old mid new end is c = subst (λ o. CountsOut o new end) is c

-- where nothing is drained
pub nothing_drained : (ts : Texts) (ended : Bool) (s : State) (n : ℕ) (h : Held) → Drain ts ended s n h h
nothing_drained ts ended s n h = record { events = []; at = s; blocks = n; drained = drained_none ts ended s n h }
