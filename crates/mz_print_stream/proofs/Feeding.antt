-- What a reader was fed and gave: how it begins, what keeps it, and what it tells of all that was taken.
use Rattle.std.proofs.Common.{◌≡◌, ℕ, ◌<◌, ◌≤◌, ◌+◌, List, [], ◌∷◌, ◌++◌, length, Bool, true, false, refl, sym, ap, ◌∙◌, arith, subst, Some, None, append_assoc, is_some}
use Rattle.std.proofs.lemmas.Bool.{false≢true}
use Rattle.std.proofs.lemmas.List.{append-nil}
use Rattle.fz_items.specs.Forms.{Form}
use Rattle.soln_reader.specs.Blocks.{Block}
use Rattle.soln_reader.specs.Stream.{Place, next_place, Event, leaves, gives, is_bad, Passes, no_line as none_passes, a_line, has_line, after_line, line_outcome}
use Rattle.soln_reader.specs.Reader.{State, place, GivesEvent, Needs, IsFirstBad, a_bad_line as bad_there, left_open, FindsBad, first, again}
use Rattle.mz_print_stream.specs.Reading.{Close, complete, bad_at, cut, at_end, Reads, no_line, passes, an_event, a_bad_line, first_place}
use Rattle.mz_print_stream.specs.Driving.{Agrees, BeginsSo, StaysAsFed, StaysAtTheEnd, StaysAsGiven, StaysAsNeeded, IsCutThere, IsCompleteThere, IsBadThere}
use Rattle.mz_print_stream.proofs.Lines.{line_takes, no_line_there}
use Rattle.mz_print_stream.proofs.Readings.{passes_on, gives_on, bad_on}

-- what holds of bytes after which none come holds of them with the bytes that agree
at_the_end : (P : Bool → List ℕ → Type 0) (e : Bool) (bs more : List ℕ) → Agrees true e more → P true bs → P e (bs ++ more)
at_the_end P e bs more a h = subst (λ t. P t (bs ++ more)) (sym a.0) (subst (λ cs. P true (bs ++ cs)) (sym a.1) (subst (λ cs. P true cs) (sym (append-nil bs)) h))

from_the_end : (P : Bool → List ℕ → Type 0) (e : Bool) (bs more : List ℕ) → Agrees true e more → P e (bs ++ more) → P true bs
from_the_end P e bs more a h = subst (λ cs. P true cs) (append-nil bs) (subst (λ cs. P true (bs ++ cs)) a.1 (subst (λ t. P t (bs ++ more)) a.0 h))

-- a line, whichever bytes come after it

line_passes : (fs : List Form) (ended e : Bool) (p : Place) (bs more : List ℕ) (b : Block) (es : List Event) (x : Close) → Agrees ended e more → has_line ended bs ≡ true → line_outcome fs p.block bs ≡ leaves b → Reads fs e (next_place p b) (after_line bs ++ more) es x → Reads fs e p (bs ++ more) es x
line_passes fs false e p bs more b es x a line out r = passes_on fs e p bs more b es x line out r
line_passes fs true e p bs more b es x a line out r =
    at_the_end (λ t cs. Reads fs t p cs es x) e bs more a
    (passes line out (from_the_end (λ t cs. Reads fs t (next_place p b) cs es x) e (after_line bs) more a r))

line_gives : (fs : List Form) (ended e : Bool) (p : Place) (bs more : List ℕ) (ev : Event) (es : List Event) (x : Close) → Agrees ended e more → has_line ended bs ≡ true → line_outcome fs p.block bs ≡ gives ev → Reads fs e (next_place p None) (after_line bs ++ more) es x → Reads fs e p (bs ++ more) (ev ∷ es) x
line_gives fs false e p bs more ev es x a line out r = gives_on fs e p bs more ev es x line out r
line_gives fs true e p bs more ev es x a line out r =
    at_the_end (λ t cs. Reads fs t p cs (ev ∷ es) x) e bs more a
    (an_event line out (from_the_end (λ t cs. Reads fs t (next_place p None) cs es x) e (after_line bs) more a r))

line_fails : (fs : List Form) (ended e : Bool) (p : Place) (bs more : List ℕ) → Agrees ended e more → has_line ended bs ≡ true → line_outcome fs p.block bs ≡ is_bad → Reads fs e p (bs ++ more) [] (bad_at (p.lines + 1))
line_fails fs false e p bs more a line out = bad_on fs e p bs more line out
line_fails fs true e p bs more a line out = at_the_end (λ t cs. Reads fs t p cs [] (bad_at (p.lines + 1))) e bs more a (a_bad_line line out)

lines_pass : (fs : List Form) (ended e : Bool) (p : Place) (bs : List ℕ) (q : Place) (rest more : List ℕ) (es : List Event) (x : Close) → Agrees ended e more → Passes fs ended p bs q rest → Reads fs e q (rest ++ more) es x → Reads fs e p (bs ++ more) es x
lines_pass fs ended e p bs q rest more es x a none_passes r = r
lines_pass fs ended e p bs q rest more es x a (a_line {b = b} line out then) r =
    line_passes fs ended e p bs more b es x a line out (lines_pass fs ended e (next_place p b) (after_line bs) q rest more es x a then r)

-- a reading by the forms that a reader holds
by_forms : (fs gs : List Form) (e : Bool) (p : Place) (bs : List ℕ) (es : List Event) (x : Close) → gs ≡ fs → Reads gs e p bs es x → Reads fs e p bs es x
by_forms fs gs e p bs es x is r = subst (λ hs. Reads hs e p bs es x) is r

-- how it begins, and what keeps it

pub begun : BeginsSo
begun fs = record { fresh = refl; forms = refl; on = λ e more ds x a r. r }

pub piece_fed : StaysAsFed
piece_fed fs taken piece es s k = record {
  fresh = k.fresh;
  forms = k.forms;
  on = λ e more ds x a r.
      subst (λ cs. Reads fs e first_place cs (es ++ ds) x) (sym (append_assoc taken piece more))
      (k.on e (piece ++ more) ds x tt (subst (λ cs. Reads fs e (place s) cs ds x) (append_assoc s.bytes piece more) r));
}

pub end_told : StaysAtTheEnd
end_told fs taken es s k = record { fresh = k.fresh; forms = k.forms; on = λ e more ds x a r. k.on e more ds x tt r }

pub one_given : StaysAsGiven
one_given ended fs taken es s u ev k g = record {
  fresh = ap (λ v. v.bad) g.after;
  forms = ap (λ v. v.forms) g.after ∙ k.forms;
  on = λ e more ds x a r.
      let from = by_forms s.forms fs e (next_place g.before None) (after_line g.from ++ more) ds x (sym k.forms) (subst (λ v. Reads fs e (place v) (v.bytes ++ more) ds x) g.after r) in
      let all = lines_pass s.forms ended e (place s) s.bytes g.before g.from more (ev ∷ ds) x a g.passed (line_gives s.forms ended e g.before g.from more ev ds x a g.line g.outcome from) in
      subst (λ js. Reads fs e first_place (taken ++ more) js x) (sym (append_assoc es (ev ∷ []) ds))
      (k.on e more (ev ∷ ds) x a (by_forms fs s.forms e (place s) (s.bytes ++ more) (ev ∷ ds) x k.forms all));
}

pub more_needed : StaysAsNeeded
more_needed fs taken es s u k n = record {
  fresh = ap (λ v. v.bad) n.after;
  forms = ap (λ v. v.forms) n.after ∙ k.forms;
  on = λ e more ds x a r.
      k.on e more ds x a (by_forms fs s.forms e (place s) (s.bytes ++ more) ds x k.forms
      (lines_pass s.forms false e (place s) s.bytes (place u) u.bytes more ds x a n.passed (by_forms s.forms fs e (place u) (u.bytes ++ more) ds x (sym k.forms) r)));
}

-- what it tells

with_nothing : (fs : List Form) (e : Bool) (taken : List ℕ) (es : List Event) (x : Close) → Reads fs e first_place (taken ++ []) (es ++ []) x → Reads fs e first_place taken es x
with_nothing fs e taken es x r = subst (λ cs. Reads fs e first_place cs es x) (append-nil taken) (subst (λ js. Reads fs e first_place (taken ++ []) js x) (append-nil es) r)

pub cut_there : IsCutThere
cut_there fs taken es s u k n =
    let j = more_needed fs taken es s u k n in
    with_nothing fs false taken es cut (j.on false [] [] cut tt (subst (λ cs. Reads fs false (place u) cs [] cut) (sym (append-nil u.bytes)) (no_line n.no_line)))

pub complete_there : IsCompleteThere
complete_there fs taken es s u k n =
    let closed : Reads s.forms true (place u) [] [] complete = subst (λ c. Reads s.forms true (place u) [] [] c) (ap (λ b. at_end u.lines b) n.closed) (no_line no_line_there) in
    with_nothing fs true taken es complete (k.on true [] [] complete (refl, refl)
    (by_forms fs s.forms true (place s) (s.bytes ++ []) [] complete k.forms (lines_pass s.forms true true (place s) s.bytes (place u) [] [] [] complete (refl, refl) n.passed closed)))

open_there : (n : ℕ) (b : Block) → is_some b ≡ true → at_end n b ≡ bad_at n
open_there n None h = absurd (false≢true h)
open_there n (Some gs) h = refl

first_bad : (fs : List Form) (ended e : Bool) (p : Place) (bs more : List ℕ) (n : ℕ) (rest : List ℕ) → Agrees ended e more → IsFirstBad fs ended p bs n rest → Reads fs e p (bs ++ more) [] (bad_at n)
first_bad fs ended e p bs more n rest a (bad_there q from passed line out) =
    lines_pass fs ended e p bs q from more [] (bad_at (q.lines + 1)) a passed (line_fails fs ended e q from more a line out)
first_bad fs false e p bs more n rest a (left_open q passed over opened) = absurd (false≢true over)
first_bad fs true e p bs more n rest a (left_open q passed over opened) =
    let closed : Reads fs true q [] [] (bad_at q.lines) = subst (λ c. Reads fs true q [] [] c) (open_there q.lines q.block opened) (no_line no_line_there) in
    lines_pass fs true e p bs q [] more [] (bad_at q.lines) a passed (at_the_end (λ t cs. Reads fs t q cs [] (bad_at q.lines)) e [] more a closed)

not_both : (n : ℕ) → Some n ≡ None → ⊥
not_both n h = cc

pub bad_there_read : IsBadThere
bad_there_read ended fs taken es s u n k (first rest f b after) e more a =
    subst (λ js. Reads fs e first_place (taken ++ more) js (bad_at n)) (append-nil es)
    (k.on e more [] (bad_at n) a (by_forms fs s.forms e (place s) (s.bytes ++ more) [] (bad_at n) k.forms (first_bad s.forms ended e (place s) s.bytes more n rest a b)))
bad_there_read ended fs taken es s u n k (again is same) e more a = absurd (not_both n (sym is ∙ k.fresh))

-- how many bytes are left

pub passes_takes : (fs : List Form) (ended : Bool) (p : Place) (bs : List ℕ) (q : Place) (rest : List ℕ) → Passes fs ended p bs q rest → length rest ≤ length bs
passes_takes fs ended p bs q rest none_passes = omega arith
passes_takes fs ended p bs q rest (a_line {b = b} line out then) = omega (arith, line_takes ended bs line, passes_takes fs ended (next_place p b) (after_line bs) q rest then)

pub event_takes : (ended : Bool) (s u : State) (ev : Event) → GivesEvent ended s ev u → length u.bytes < length s.bytes
event_takes ended s u ev g =
    let l : length u.bytes ≡ length (after_line g.from) = ap (λ v. length v.bytes) g.after in
    omega (arith, l, line_takes ended g.from g.line, passes_takes s.forms ended (place s) s.bytes g.before g.from g.passed)

pub need_takes : (ended : Bool) (s u : State) → Needs ended s u → length u.bytes ≤ length s.bytes
need_takes ended s u n = passes_takes s.forms false (place s) s.bytes (place u) u.bytes n.passed

first_bad_takes : (fs : List Form) (ended : Bool) (p : Place) (bs : List ℕ) (n : ℕ) (rest : List ℕ) → IsFirstBad fs ended p bs n rest → length rest ≤ length bs
first_bad_takes fs ended p bs n rest (bad_there q from passed line out) = omega (arith, line_takes ended from line, passes_takes fs ended p bs q from passed)
first_bad_takes fs ended p bs n rest (left_open q passed over opened) = passes_takes fs ended p bs q [] passed

pub bad_takes : (ended : Bool) (s u : State) (n : ℕ) → FindsBad ended s n u → length u.bytes ≤ length s.bytes
bad_takes ended s u n (first rest f b after) =
    let l : length u.bytes ≡ length rest = ap (λ v. length v.bytes) after in
    omega (arith, l, first_bad_takes s.forms ended (place s) s.bytes n rest b)
bad_takes ended s u n (again is same) =
    let l : length u.bytes ≡ length s.bytes = ap (λ v. length v.bytes) same in
    omega (arith, l)
