-- From what is drained of the bytes taken to what is promised of the whole stream.
use Rattle.std.proofs.Common.{◌≡◌, ℕ, ◌<◌, ◌≤◌, ◌+◌, ◌-◌, List, [], ◌∷◌, ◌++◌, length, take, drop, min, Bool, true, false, leb, refl, sym, ap, ◌∙◌, arith, rules, tests, subst, Some, None, append_assoc, Ok, Err, inl, inr}
use Rattle.std.proofs.lemmas.List.{append-nil, length-append, length-take, length-take-le, take-append-le}
use Rattle.std.proofs.Math.Seq.{take-append_seam}
use Rattle.mz_base.specs.declared.fault.Fault.{Fault}
use Rattle.mz_io.specs.Counts.{Rose}
use Rattle.mz_io.specs.Sink.{Held, SinkCounts, Adds}
use Rattle.mz_io.specs.Source.{Left, Gives}
use Rattle.mz_io.specs.declared.source.Took.TheVariants as took
use Rattle.mz_value.specs.declared.value.Shape.{Shape}
use Rattle.fz_items.specs.Forms.{Form, forms}
use Rattle.soln_reader.specs.Holding.{Holding, nothing_held}
use Rattle.soln_reader.specs.Views.{state}
use Rattle.soln_reader.specs.Stream.{Event, block}
use Rattle.soln_reader.specs.Reader.{State, place, start, fed, Needs}
use Rattle.mz_print_stream.specs.Reading.{Reads, no_line, complete, bad_at, cut, first_place}
use Rattle.mz_print_stream.specs.Printing.{Texts, before, output, all_written, refused, end_by, too_long, PrintsSoFar, piece}
use Rattle.mz_print_stream.specs.Driving.{Agrees, SoFar}
use Rattle.mz_print_stream.specs.Promises.{Has, Gave, IsPrinted, IsPrintedSoFar, IsPrintedCut, Promises, CountsIn, CountsOut}
use Rattle.mz_print_stream.specs.StepsDrain.{GivesAll, none_yet, one_more, Drained, Drain, CutIn, IsRefused, Drains, IsFew, Stands, StandsOn}
use Rattle.mz_print_stream.specs.StepsStream.{Pieces, Reached}
use Rattle.mz_print_stream.specs.declared.printed.Printed.{Printed}
use Rattle.mz_print_stream.specs.declared.printed.Printed.TheVariants as printed
use Rattle.mz_print_stream.proofs.Lines.{no_line_yet}
use Rattle.mz_print_stream.proofs.Readings.{each_is_read}
use Rattle.mz_print_stream.proofs.Feeding.{begun, piece_fed, end_told, one_given, more_needed, cut_there, complete_there, bad_there_read}
use Rattle.mz_print_stream.proofs.Outputs.{output_then, output_begins, refused_output, no_output}
use Rattle.mz_print_stream.proofs.Drains.{adds_nothing, adds_more, nothing_drained, counts_stop}
use Rattle.mz_print_stream.proofs.Sources.{gave_none, gave_more, gave_end, gave_failed, rest_of, whole_of, fed_is, all_fed}

-- a drain

all_given : (ended : Bool) (fs : List Form) (taken : List ℕ) (es ds : List Event) (s u : State) → SoFar ended fs taken es s → GivesAll ended s ds u → SoFar ended fs taken (es ++ ds) u
all_given ended fs taken es ds s u k none_yet = subst (λ js. SoFar ended fs taken js s) (sym (append-nil es)) k
all_given ended fs taken es ds s u k (one_more {u = t} {v = v} {es = cs} {e = e} g h) =
    subst (λ js. SoFar ended fs taken js v) (append_assoc es cs (e ∷ [])) (one_given ended fs taken (es ++ cs) t v e (all_given ended fs taken es cs s t k g) h)

-- what is written of the events before and of those drained
written_on : (ts : Texts) (n : ℕ) (es ds : List Event) → (output ts 0 es).fault ≡ None → n ≡ (output ts 0 es).blocks → output ts 0 (es ++ ds) ≡ before (output ts 0 es).bytes (output ts n ds)
written_on ts n es ds on is = output_then ts 0 es ds on ∙ ap (λ k. before (output ts 0 es).bytes (output ts k ds)) (sym is)

abbrev after_drain : (ts : Texts) (ended : Bool) (fs : List Form) (taken : List ℕ) (s u : State) (n m : ℕ) (base old new : Held) (es : List Event) → Stands ts ended fs taken s n base old → Drained ts ended s n old es u m new → Stands ts ended fs taken u m base new
after_drain ts ended fs taken s u n m base old new es k d =
    let is = written_on ts n k.events es k.goes_on k.blocks in
    record {
      events = k.events ++ es;
      so_far = all_given ended fs taken k.events es s u k.so_far d.given;
      goes_on = ap (λ w. w.fault) is ∙ d.goes_on;
      blocks = d.blocks ∙ sym (ap (λ w. w.blocks) is);
      adds = subst (λ bs. Adds base new bs) (sym (ap (λ w. w.bytes) is)) (adds_more base old new (output ts 0 k.events).bytes (output ts n es).bytes k.adds d.adds);
    }

abbrev stands_needing : (ts : Texts) (fs : List Form) (taken : List ℕ) (u v : State) (m : ℕ) (base new : Held) → Stands ts false fs taken u m base new → Needs false u v → Stands ts false fs taken v m base new
stands_needing ts fs taken u v m base new k needs = record { events = k.events; so_far = more_needed fs taken k.events u v k.so_far needs; goes_on = k.goes_on; blocks = k.blocks; adds = k.adds }

pub drained_on : StandsOn
drained_on ts fs taken s u v n m base old new es k d needs =
    let j = after_drain ts false fs taken s u n m base old new es k d in
    (stands_needing ts fs taken u v m base new j needs, cut_there fs taken j.events u v j.so_far needs)

-- pieces

nothing_read : (fs : List Form) → Reads fs false first_place [] [] cut
nothing_read fs = no_line no_line_yet

abbrev stands_first : (ts : Texts) (fs : List Form) (base : Held) → Stands ts false fs [] (start fs) 0 base base
stands_first ts fs base =
    let is = no_output ts 0 in
    record {
      events = [];
      so_far = begun fs;
      goes_on = ap (λ w. w.fault) is;
      blocks = sym (ap (λ w. w.blocks) is);
      adds = subst (λ bs. Adds base base bs) (sym (ap (λ w. w.bytes) is)) (adds_nothing base);
    }

pub pieces_first : (ts : Texts) (fs : List Form) (limit : ℕ) (source : Left) (base : Held) → Pieces ts fs limit source source base base (start fs) 0 limit
pieces_first ts fs limit source base = record {
  taken = [];
  gave = gave_none source;
  stands = stands_first ts fs base;
  reads = nothing_read fs;
  counted = omega arith;
  lines = omega arith;
  blocks = omega arith;
}

abbrev stands_fed : (ts : Texts) (fs : List Form) (taken more : List ℕ) (s : State) (n : ℕ) (base held : Held) → Stands ts false fs taken s n base held → Stands ts false fs (taken ++ more) (fed s more) n base held
stands_fed ts fs taken more s n base held k = record { events = k.events; so_far = piece_fed fs taken more k.events s k.so_far; goes_on = k.goes_on; blocks = k.blocks; adds = k.adds }

abbrev stands_last : (ts : Texts) (fs : List Form) (taken : List ℕ) (s : State) (n : ℕ) (base held : Held) → Stands ts false fs taken s n base held → Stands ts true fs taken s n base held
stands_last ts fs taken s n base held k = record { events = k.events; so_far = end_told fs taken k.events s k.so_far; goes_on = k.goes_on; blocks = k.blocks; adds = k.adds }

abbrev kept_of : (ts : Texts) (fs : List Form) (limit : ℕ) (source left : Left) (base held : Held) (s : State) (n room : ℕ) (p : Pieces ts fs limit source left base held s n room) → PrintsSoFar ts fs limit p.taken (output ts 0 p.stands.events).bytes
kept_of ts fs limit source left base held s n room p = record { events = p.stands.events; within = omega (arith, p.counted); reads = p.reads; bytes = refl; goes_on = p.stands.goes_on }

not_over : false ≡ true → ⊥
not_over h = cc

-- a piece of k bytes is taken
abbrev reached_piece : (ts : Texts) (fs : List Form) (limit : ℕ) (source left new : Left) (base held : Held) (s : State) (n room k : ℕ) (buf : List ℕ) → Pieces ts fs limit source left base held s n room → Gives left new buf (took.Some k) → k ≤ piece → Reached ts false fs limit source new base held (fed s (take (min k room) buf)) n
reached_piece ts fs limit source left new base held s n room k buf p g low = record {
  earlier = p.taken;
  last = take k buf;
  short = omega (arith, length-take k buf, low);
  gave = gave_more source left new p.taken buf k p.gave g;
  over = λ h. absurd (not_over h);
  bytes = p.taken ++ take (min k room) buf;
  is = fed_is limit k room p.taken buf p.counted;
  stands = stands_fed ts fs p.taken (take (min k room) buf) s n base held p.stands;
  kept = kept_of ts fs limit source left base held s n room p;
}

-- nothing more is taken
pub reached_none : (ts : Texts) (fs : List Form) (limit : ℕ) (source left : Left) (base held : Held) (s : State) (n room : ℕ) → Pieces ts fs limit source left base held s n room → Reached ts false fs limit source left base held s n
reached_none ts fs limit source left base held s n room p = record {
  earlier = p.taken;
  last = [];
  short = omega arith;
  gave = subst (λ cs. Gave source left cs) (sym (append-nil p.taken)) p.gave;
  over = λ h. absurd (not_over h);
  bytes = p.taken;
  is = all_fed limit p.taken (omega (arith, p.counted));
  stands = p.stands;
  kept = kept_of ts fs limit source left base held s n room p;
}

pub reached_end : (ts : Texts) (fs : List Form) (limit : ℕ) (source left new : Left) (base held : Held) (s : State) (n room : ℕ) (buf : List ℕ) → Pieces ts fs limit source left base held s n room → Gives left new buf took.End → Reached ts true fs limit source new base held s n
reached_end ts fs limit source left new base held s n room buf p g =
    let e = gave_end source left new p.taken buf p.gave g in
    record {
      earlier = p.taken;
      last = [];
      short = omega arith;
      gave = subst (λ cs. Gave source new cs) (sym (append-nil p.taken)) e.0;
      over = λ h. (e.1, omega (arith, length-append p.taken [], p.counted));
      bytes = p.taken;
      is = all_fed limit p.taken (omega (arith, p.counted));
      stands = stands_last ts fs p.taken s n base held p.stands;
      kept = kept_of ts fs limit source left base held s n room p;
    }

-- the loop goes on

abbrev pieces_on : (ts : Texts) (fs : List Form) (limit : ℕ) (source left new : Left) (base held put : Held) (s v : State) (n m room k : ℕ) (buf : List ℕ) (x : Unit {0}) → Pieces ts fs limit source left base held s n room → Gives left new buf (took.Some k) → k ≤ length buf → k ≤ room → Drains ts false (fed s (take k buf)) n held v m put (Ok x) → IsFew (fed s (take k buf)) n v m → Pieces ts fs limit source new base put v m (room - k)
pieces_on ts fs limit source left new base held put s v n m room k buf x p g fits low d few =
    let more = take k buf in
    let l : length (p.taken ++ more) ≡ length p.taken + k = length-append p.taken more ∙ ap (λ j. length p.taken + j) (length-take-le k buf fits) in
    let f : length (s.bytes ++ more) ≡ length s.bytes + k = length-append s.bytes more ∙ ap (λ j. length s.bytes + j) (length-take-le k buf fits) in
    let q = drained_on ts fs (p.taken ++ more) (fed s more) d.1 v n m base held put d.0 (stands_fed ts fs p.taken more s n base held p.stands) d.2 d.3 in
    record {
      taken = p.taken ++ more;
      gave = gave_more source left new p.taken buf k p.gave g;
      stands = q.0;
      reads = q.1;
      counted = omega (arith, l, p.counted, low);
      lines = omega (arith, l, f, p.lines, few.lines);
      blocks = omega (arith, l, f, p.blocks, few.blocks);
    }

-- what is promised

agrees_itself : (e : Bool) → Agrees e e []
agrees_itself false = tt
agrees_itself true = (refl, refl)

four : (a p b k : List ℕ) → (a ++ (p ++ b)) ++ k ≡ (a ++ p) ++ (b ++ k)
four a p b k = ap (λ x. x ++ k) (sym (append_assoc a p b)) ∙ append_assoc (a ++ p) b k

pub cut_promise : (ts : Texts) (ended : Bool) (fs : List Form) (limit : ℕ) (source left : Left) (base held new : Held) (s : State) (n : ℕ) → Reached ts ended fs limit source left base held s n → CutIn ts ended s n held new → IsPrintedCut ts fs limit source left base new
cut_promise ts ended fs limit source left base held new s n r d =
    let es = r.stands.events in
    let text = (output ts 0 es).bytes in
    let k = all_given ended fs r.bytes es d.events s d.after r.stands.so_far d.given in
    let later = each_is_read fs ended (place d.after) (d.after.bytes ++ []) in
    let all = k.on ended [] later.events later.close (agrees_itself ended) later.reads in
    let whole = written_on ts n es d.events r.stands.goes_on r.stands.blocks in
    let back = output_begins ts 0 (es ++ d.events) later.events in
    record {
      taken = r.earlier ++ r.last;
      gave = r.gave;
      ended = ended;
      over = λ h. (r.over h).0;
      out = text ++ d.adds.prefix;
      prints = record {
        events = (es ++ d.events) ++ later.events;
        close = later.close;
        reads = subst (λ cs. Reads fs ended first_place cs ((es ++ d.events) ++ later.events) later.close) (append-nil r.bytes ∙ r.is) all;
        unwritten = d.adds.back ++ back.0;
        prefix =
            back.1
            ∙ (ap (λ bs. bs ++ back.0) (ap (λ w. w.bytes) whole ∙ ap (λ bs. text ++ bs) d.adds.whole)
            ∙ four text d.adds.prefix d.adds.back back.0);
        earlier = r.earlier;
        last = r.last;
        pieces = refl;
        short = r.short;
        text = text;
        kept = r.kept;
        more = d.adds.prefix;
        holds = refl;
      };
      adds = adds_more base held new text d.adds.prefix r.stands.adds d.adds.adds;
    }

cut_of : (ts : Texts) (ended : Bool) (s : State) (n : ℕ) (old new : Held) → Drain ts ended s n old new → CutIn ts ended s n old new
cut_of ts ended s n old new d = record {
  events = d.events;
  after = d.at;
  given = d.drained.given;
  adds = record { prefix = (output ts n d.events).bytes; back = []; whole = sym (append-nil (output ts n d.events).bytes); adds = d.drained.adds };
}

refused_promise : (ts : Texts) (ended : Bool) (fs : List Form) (limit : ℕ) (source left : Left) (base held new : Held) (s : State) (n : ℕ) (f : Fault) → Reached ts ended fs limit source left base held s n → (d : Drain ts ended s n held new) → IsRefused ts ended d.blocks d.at f → IsPrinted ts fs limit source base new (refused f)
refused_promise ts ended fs limit source left base held new s n f r d (inl b) =
    let k = after_drain ts ended fs r.bytes s d.at n d.blocks base held new d.events r.stands d.drained in
    let w = whole_of ended limit source left (r.earlier ++ r.last) r.gave r.over in
    let all = bad_there_read ended fs r.bytes k.events d.at b.1 b.0 k.so_far b.3 (leb (length w.stream) limit) w.more w.agrees in
    record {
      stream = w.stream;
      told = w.told;
      out = (output ts 0 k.events).bytes;
      prints = record {
        events = k.events;
        close = bad_at b.0;
        reads = subst (λ cs. Reads fs (leb (length w.stream) limit) first_place cs k.events (bad_at b.0)) (ap (λ cs. cs ++ w.more) r.is ∙ sym w.is) all;
        bytes = refl;
        ends = ap refused b.2 ∙ sym (ap (λ g. end_by g (bad_at b.0)) k.goes_on);
      };
      adds = k.adds;
    }
refused_promise ts ended fs limit source left base held new s n f r d (inr b) =
    let k = after_drain ts ended fs r.bytes s d.at n d.blocks base held new d.events r.stands d.drained in
    let w = whole_of ended limit source left (r.earlier ++ r.last) r.gave r.over in
    let e = leb (length w.stream) limit in
    let j = one_given ended fs r.bytes k.events d.at b.1 (block b.0) k.so_far b.2 in
    let later = each_is_read fs e (place b.1) ((b.1).bytes ++ w.more) in
    let es = (k.events ++ block b.0 ∷ []) ++ later.events in
    let all = j.on e w.more later.events later.close w.agrees later.reads in
    let is : output ts 0 es ≡ record { bytes = (output ts 0 k.events).bytes ++ []; blocks = d.blocks + 1; fault = Some f } =
    ap (λ ds. output ts 0 ds) (append_assoc k.events (block b.0 ∷ []) later.events)
    ∙ (written_on ts d.blocks k.events (block b.0 ∷ later.events) k.goes_on k.blocks
    ∙ ap (λ v. before (output ts 0 k.events).bytes v) (refused_output ts d.blocks b.0 f later.events b.3)) in
    record {
      stream = w.stream;
      told = w.told;
      out = (output ts 0 k.events).bytes;
      prints = record {
        events = es;
        close = later.close;
        reads = subst (λ cs. Reads fs e first_place cs es later.close) (ap (λ cs. cs ++ w.more) r.is ∙ sym w.is) all;
        bytes = sym (append-nil (output ts 0 k.events).bytes) ∙ sym (ap (λ v. v.bytes) is);
        ends = sym (ap (λ v. end_by v.fault later.close) is);
      };
      adds = k.adds;
    }

-- A DRAIN THAT STOPS the printing
pub stop_promise : (ts : Texts) (ended : Bool) (fs : List Form) (limit : ℕ) (source left : Left) (base held new : Held) (s v : State) (n m : ℕ) (end : Printed) → Reached ts ended fs limit source left base held s n → Drains ts ended s n held v m new (Err end) → Promises ts fs limit source left base new end
stop_promise ts ended fs limit source left base held new s v n m (printed.Refused f) r d = refused_promise ts ended fs limit source left base held new s n f r d.0 d.1
stop_promise ts ended fs limit source left base held new s v n m printed.WriteFault r d = cut_promise ts ended fs limit source left base held new s n r d
stop_promise ts ended fs limit source left base held new s v n m printed.Memory r d = cut_promise ts ended fs limit source left base held new s n r (cut_of ts ended s n held new d)
stop_promise ts ended fs limit source left base held new s v n m printed.Done r d = absurd d
stop_promise ts ended fs limit source left base held new s v n m printed.ReadFault r d = absurd d

-- out of memory before anything is taken
pub memory_promise : (ts : Texts) (fs : List Form) (limit : ℕ) (source : Left) (base : Held) → IsPrintedCut ts fs limit source source base base
memory_promise ts fs limit source base =
    cut_promise ts false fs limit source source base base base (start fs) 0
    (reached_none ts fs limit source source base base (start fs) 0 limit (pieces_first ts fs limit source base))
    (cut_of ts false (start fs) 0 base base (nothing_drained ts false (start fs) 0 base))

-- the source fails
pub fault_promise : (ts : Texts) (fs : List Form) (limit : ℕ) (source left new : Left) (base held : Held) (s : State) (n room : ℕ) (buf : List ℕ) → Pieces ts fs limit source left base held s n room → Gives left new buf took.Failed → IsPrintedSoFar ts fs limit source new base held
fault_promise ts fs limit source left new base held s n room buf p g = record {
  taken = p.taken;
  gave = gave_failed source left new p.taken buf p.gave g;
  out = (output ts 0 p.stands.events).bytes;
  prints = kept_of ts fs limit source left base held s n room p;
  adds = p.stands.adds;
}

-- all is read
pub done_promise : (ts : Texts) (fs : List Form) (limit : ℕ) (source left : Left) (base held new : Held) (s v : State) (n m : ℕ) (x : Unit {0}) → Reached ts true fs limit source left base held s n → Drains ts true s n held v m new (Ok x) → IsPrinted ts fs limit source base new all_written × Has left []
done_promise ts fs limit source left base held new s v n m x r d =
    let k = after_drain ts true fs r.bytes s d.1 n m base held new d.0 r.stands d.2 in
    let w = whole_of true limit source left (r.earlier ++ r.last) r.gave r.over in
    let all = complete_there fs r.bytes k.events d.1 v k.so_far d.3 in
    let same : take limit w.stream ≡ r.bytes = w.is ∙ (ap (λ cs. take limit (r.earlier ++ r.last) ++ cs) (w.agrees).1 ∙ (append-nil (take limit (r.earlier ++ r.last)) ∙ sym r.is)) in (
      record {
        stream = w.stream;
        told = w.told;
        out = (output ts 0 k.events).bytes;
        prints = record {
          events = k.events;
          close = complete;
          reads = subst (λ t. Reads fs t first_place (take limit w.stream) k.events complete) (sym (w.agrees).0) (subst (λ cs. Reads fs true first_place cs k.events complete) (sym same) all);
          bytes = refl;
          ends = sym (ap (λ g. end_by g complete) k.goes_on);
        };
        adds = k.adds;
      },
      (r.over refl).0,
    )

-- more bytes come than there may be
pub long_promise : (ts : Texts) (fs : List Form) (limit : ℕ) (source left : Left) (base held new : Held) (s v : State) (n m : ℕ) (x : Unit {0}) → (r : Reached ts false fs limit source left base held s n) → limit < length (r.earlier ++ r.last) → Drains ts false s n held v m new (Ok x) → IsPrinted ts fs limit source base new (refused too_long)
long_promise ts fs limit source left base held new s v n m x r long d =
    let k = after_drain ts false fs r.bytes s d.1 n m base held new d.0 r.stands d.2 in
    let taken = r.earlier ++ r.last in
    let rest = rest_of source left taken r.gave in
    let stream = taken ++ rest.0 in
    let all = cut_there fs r.bytes k.events d.1 v k.so_far d.3 in
    let same : take limit stream ≡ r.bytes = take-append-le limit taken rest.0 (omega (arith, long)) ∙ sym r.is in
    let over : leb (length stream) limit ≡ false = not_within (length stream) limit (omega (arith, long, length-append taken rest.0)) in
    record {
      stream = stream;
      told = rest.1;
      out = (output ts 0 k.events).bytes;
      prints = record {
        events = k.events;
        close = cut;
        reads = subst (λ t. Reads fs t first_place (take limit stream) k.events cut) (sym over) (subst (λ cs. Reads fs false first_place cs k.events cut) (sym same) all);
        bytes = refl;
        ends = sym (ap (λ g. end_by g cut) k.goes_on);
      };
      adds = k.adds;
    }
  where
    not_within : (m n : ℕ) → n < m → leb m n ≡ false
    not_within m n h = search (rules, tests)

-- what the code has at each return

pub begins : (ts : Texts) (ss : List Shape) (limit : ℕ) (source : Left) (base : Held) (h : Holding) → h ≡ nothing_held ss → Pieces ts (forms ss) limit source source base base (state h) 0 limit
begins ts ss limit source base h is = subst (λ k. Pieces ts (forms ss) limit source source base base (state k) 0 limit) (sym is) (pieces_first ts (forms ss) limit source base)

pub stops : (ts : Texts) (fs : List Form) (limit : ℕ) (source left new : Left) (base held put : Held) (s v : State) (n m room k w : ℕ) (buf pc : List ℕ) (end : Printed) → Pieces ts fs limit source left base held s n room → Gives left new buf (took.Some k) → k ≤ length buf → length buf ≡ piece → w ≡ min k room → pc ≡ take w buf → Drains ts false (fed s pc) n held v m put (Err end) → Promises ts fs limit source new base put end
stops ts fs limit source left new base held put s v n m room k w buf pc end p g fits full is from d =
    let r : Reached ts false fs limit source new base held (fed s pc) n = subst (λ cs. Reached ts false fs limit source new base held (fed s cs) n) (sym (from ∙ ap (λ j. take j buf) is)) (reached_piece ts fs limit source left new base held s n room k buf p g (omega (arith, fits, full))) in
    stop_promise ts false fs limit source new base held put (fed s pc) v n m end r d

pub is_too_long : (ts : Texts) (fs : List Form) (limit : ℕ) (source left new : Left) (base held put : Held) (s v : State) (n m room k w : ℕ) (buf pc : List ℕ) (x : Unit {0}) (f : Fault) → f ≡ too_long → Pieces ts fs limit source left base held s n room → Gives left new buf (took.Some k) → k ≤ length buf → length buf ≡ piece → w ≡ min k room → w < k → pc ≡ take w buf → Drains ts false (fed s pc) n held v m put (Ok x) → IsPrinted ts fs limit source base put (refused f)
is_too_long ts fs limit source left new base held put s v n m room k w buf pc x f why p g fits full is less from d =
    let r = reached_piece ts fs limit source left new base held s n room k buf p g (omega (arith, fits, full)) in
    let l : length (take k buf) ≡ k = length-take-le k buf fits in
    let d' : Drains ts false (fed s (take (min k room) buf)) n held v m put (Ok x) = subst (λ cs. Drains ts false (fed s cs) n held v m put (Ok x)) (from ∙ ap (λ j. take j buf) is) d in
    subst (λ e. IsPrinted ts fs limit source base put (refused e)) (sym why) (long_promise ts fs limit source new base held put (fed s (take (min k room) buf)) v n m x r (omega (arith, p.counted, l, less, is, length-append p.taken (take k buf))) d')

pub goes_on : (ts : Texts) (fs : List Form) (limit : ℕ) (source left new : Left) (base held put : Held) (s v : State) (n m room k w : ℕ) (buf pc : List ℕ) (x : Unit {0}) → Pieces ts fs limit source left base held s n room → Gives left new buf (took.Some k) → k ≤ length buf → w ≡ min k room → k ≤ w → pc ≡ take w buf → Drains ts false (fed s pc) n held v m put (Ok x) → IsFew (fed s pc) n v m → Pieces ts fs limit source new base put v m (room - w)
goes_on ts fs limit source left new base held put s v n m room k w buf pc x p g fits is low from d few =
    let same : w ≡ k = omega (arith, is, low) in
    let whole : pc ≡ take k buf = from ∙ ap (λ j. take j buf) same in
    let d' : Drains ts false (fed s (take k buf)) n held v m put (Ok x) = subst (λ cs. Drains ts false (fed s cs) n held v m put (Ok x)) whole d in
    let f : IsFew (fed s (take k buf)) n v m = subst (λ cs. IsFew (fed s cs) n v m) whole few in
    subst (λ j. Pieces ts fs limit source new base put v m (room - j)) (sym same)
    (pieces_on ts fs limit source left new base held put s v n m room k buf x p g fits (omega (arith, is, low)) d' f)

-- the last drain

pub last_done : (ts : Texts) (fs : List Form) (limit : ℕ) (source left new : Left) (base held put : Held) (s v : State) (n m room : ℕ) (buf : List ℕ) (x : Unit {0}) (end : Printed) → Pieces ts fs limit source left base held s n room → Gives left new buf took.End → end ≡ printed.Done → Drains ts true s n held v m put (Ok x) → Promises ts fs limit source new base put end
last_done ts fs limit source left new base held put s v n m room buf x end p g is d =
    subst (λ e. Promises ts fs limit source new base put e) (sym is)
    (done_promise ts fs limit source new base held put s v n m x (reached_end ts fs limit source left new base held s n room buf p g) d)

pub last_stops : (ts : Texts) (fs : List Form) (limit : ℕ) (source left new : Left) (base held put : Held) (s v : State) (n m room : ℕ) (buf : List ℕ) (why end : Printed) → Pieces ts fs limit source left base held s n room → Gives left new buf took.End → end ≡ why → Drains ts true s n held v m put (Err why) → Promises ts fs limit source new base put end
last_stops ts fs limit source left new base held put s v n m room buf why end p g is d =
    subst (λ e. Promises ts fs limit source new base put e) (sym is)
    (stop_promise ts true fs limit source new base held put s v n m why (reached_end ts fs limit source left new base held s n room buf p g) d)

-- counts

pub no_read_fault : (ts : Texts) (ended : Bool) (s v : State) (n m : ℕ) (held put : Held) (old mid new : ℕ) (why end : Printed) → end ≡ why → Drains ts ended s n held v m put (Err why) → mid ≡ old → new ≡ mid → CountsIn old new end
no_read_fault ts ended s v n m held put old mid new why end e d is same = subst (λ x. CountsIn old new x) (sym e) (go why d)
  where
    go : (why : Printed) → Drains ts ended s n held v m put (Err why) → CountsIn old new why
    go (printed.Refused f) h = same ∙ is
    go printed.WriteFault h = same ∙ is
    go printed.Memory h = same ∙ is
    go printed.Done h = absurd h
    go printed.ReadFault h = absurd h

pub in_done : (old mid new : ℕ) (end : Printed) → end ≡ printed.Done → mid ≡ old → new ≡ mid → CountsIn old new end
in_done old mid new end e is same = subst (λ x. CountsIn old new x) (sym e) (same ∙ is)

pub out_done : (old mid new : SinkCounts) (end : Printed) → end ≡ printed.Done → mid ≡ old → new ≡ mid → CountsOut old new end
out_done old mid new end e is same = subst (λ x. CountsOut old new x) (sym e) (same ∙ is)

pub out_stops : (old mid new : SinkCounts) (why end : Printed) → end ≡ why → mid ≡ old → CountsOut mid new why → CountsOut old new end
out_stops old mid new why end e is c = subst (λ x. CountsOut old new x) (sym e) (counts_stop old mid new why is c)

pub rose_from : (old mid new : ℕ) → mid ≡ old → Rose mid new → Rose old new
rose_from old mid new is r = subst (λ k. Rose k new) is r

-- the buffer after bytes were taken into it, and what is fed of it
pub buffer_is : (n : ℕ) (new old : List ℕ) → n ≡ length new → take n (new ++ drop (length new) old) ≡ new
buffer_is n new old size = ap (λ k. take k (new ++ drop (length new) old)) size ∙ take-append_seam new (drop (length new) old)

pub fed_slice : (w n : ℕ) (new old all : List ℕ) → all ≡ take n (new ++ drop (length new) old) → n ≡ length new → take w all ≡ take w new
fed_slice w n new old all is size =
    ap (λ cs. take w cs) (is ∙ buffer_is n new old size)
