-- What the end of a command says of a run's answer.
use Rattle.std.proofs.Common.{◌≡◌, ℕ, ◌<◌, List, refl, sym, ap, subst, inl, inr, arith}
use Rattle.std.specs.Prelude.{◌⊎◌, Option, Some, None}
use Rattle.mz_base.specs.declared.kind.Kind.{Kind}
use Rattle.mz_base.specs.declared.kind.Kind.TheVariants as kind
use Rattle.mz_base.specs.Names.{AreDistinct}
use Rattle.mz_io.specs.Counts.{Rose}
use Rattle.mz_io.specs.Files.{Texts, FileCounts}
use Rattle.mz_io.specs.Sink.{Held, SinkCounts}
use Rattle.mz_io.specs.Source.{Left}
use Rattle.mz_include.specs.Ends.{CountsRefusal}
use Rattle.mz_words.specs.Requests.{Settings, Asked, compile, check, print, make}
use Rattle.fz_program.specs.Names.{Name}
use Rattle.mz_tool.specs.declared.end.End.{End}
use Rattle.mz_tool.specs.declared.end.End.TheVariants as end
use Rattle.mz_tool.specs.declared.status.Status.{Status}
use Rattle.mz_tool.specs.declared.status.Status.TheVariants as status
use Rattle.mz_tool.specs.Words.{IsUsage, OnCheck, OnMake, OnPrint, UnlessPrint}
use Rattle.mz_tool.specs.Headline.{Writes, WritesPrefix}
use Rattle.mz_tool.specs.Printed.{IsEarly, PrintEnds, before_the_stream, at_the_stream}
use Rattle.mz_tool.specs.Status.{IsRefusal, IsRefusedBy, ByDistinctNames, IsOwner, OnDone, OnReadFault, OnWriteFault, OnNothingWritten, IfRefused, CountsFiles, CountsInput, CountsReadIf, CountsOut}
use Rattle.mz_tool.specs.StepsEnding.{Ends, status_of, file_of, owner_name}
use Rattle.mz_tool.specs.StepsPrinting.{EarlyEnd, PrintedEnd, RefusedEnd, is_early, is_late}

-- what follows from how a command ends that isn't to print
pub unless : {P Q : Type 0} (a : Asked) → (P → Q) → UnlessPrint (Some a) P → UnlessPrint (Some a) Q
unless (compile s) f p = f p
unless (check s) f p = f p
unless (print s) f p = tt
unless (make n) f p = f p

module _ (table : List Name) (distinct : AreDistinct table) (texts : Texts) where
  by_table : {P : List Name → Type 0} → P table → ByDistinctNames P
  by_table h = record { table = table; distinct = distinct; holds = h }

  module _ (a : Asked) (old new : Held) where
    pub done_writes : (e : End) → Ends table texts a old new e → OnDone (status_of e) (ByDistinctNames (λ t. Writes t texts a old new))
    done_writes end.Done ended = by_table ended
    done_writes (end.Refused f o) ended = tt
    done_writes end.ReadFault ended = tt
    done_writes end.WriteFault ended = tt
    done_writes end.Memory ended = tt

    pub cut_short : (e : End) → Ends table texts a old new e → OnWriteFault (status_of e) (ByDistinctNames (λ t. WritesPrefix t texts a old new))
    cut_short end.Done ended = tt
    cut_short (end.Refused f o) ended = tt
    cut_short end.ReadFault ended = tt
    cut_short end.WriteFault ended = by_table ended
    cut_short end.Memory ended = tt

    pub untouched : (e : End) → Ends table texts a old new e → OnNothingWritten (status_of e) (new ≡ old)
    untouched end.Done ended = tt
    untouched (end.Refused f o) ended = ended.0
    untouched end.ReadFault ended = ended
    untouched end.WriteFault ended = tt
    untouched end.Memory ended = ended

  -- why it is refused, whatever is asked for
  abbrev pub RefusedSo : Asked → End → Type 0
  RefusedSo a (end.Refused f o) = IsRefusedBy table texts a f (owner_name table o)
  RefusedSo a _ = Unit {0}

  ended_so : (a : Asked) (old new : Held) (e : End) → Ends table texts a old new e → RefusedSo a e
  ended_so a old new end.Done ended = tt
  ended_so a old new (end.Refused f o) ended = ended.1
  ended_so a old new end.ReadFault ended = tt
  ended_so a old new end.WriteFault ended = tt
  ended_so a old new end.Memory ended = tt

  printed_so : (s : Settings) (e : End) → RefusedEnd table texts s e → RefusedSo (print s) e
  printed_so s end.Done refused = tt
  printed_so s (end.Refused f o) refused = refused
  printed_so s end.ReadFault refused = tt
  printed_so s end.WriteFault refused = tt
  printed_so s end.Memory refused = tt

  pub refused_so : (a : Asked) (old new : Held) (e : End) → UnlessPrint (Some a) (Ends table texts a old new e) → OnPrint (Some a) (λ s. RefusedEnd table texts s e) → RefusedSo a e
  refused_so (compile s) old new e ended refused = ended_so (compile s) old new e ended
  refused_so (check s) old new e ended refused = ended_so (check s) old new e ended
  refused_so (print s) old new e ended refused = printed_so s e refused
  refused_so (make n) old new e ended refused = ended_so (make n) old new e ended

  pub refused : (a : Asked) (e : End) → RefusedSo a e → IfRefused (status_of e) (λ f. ByDistinctNames (λ t. (owner : Name) × IsRefusedBy t texts a f owner))
  refused a end.Done so = tt
  refused a (end.Refused f o) so = by_table (owner_name table o, so)
  refused a end.ReadFault so = tt
  refused a end.WriteFault so = tt
  refused a end.Memory so = tt

  pub owner : (a : Asked) (e : End) → RefusedSo a e → IsOwner texts (Some a) (status_of e) (file_of table e)
  owner a end.Done so = tt
  owner a (end.Refused f o) so = by_table so
  owner a end.ReadFault so = tt
  owner a end.WriteFault so = tt
  owner a end.Memory so = tt

  -- ---- what is printed

  early_answer : (s : Settings) (e : End) → EarlyEnd table texts s e → IsEarly (λ f. ByDistinctNames (λ t. (file : Name) × IsRefusal t texts s f file)) (status_of e)
  early_answer s end.Done is = is
  early_answer s (end.Refused f o) is = by_table (owner_name table o, is)
  early_answer s end.ReadFault is = tt
  early_answer s end.WriteFault is = is
  early_answer s end.Memory is = tt

  print_ends : (s : Settings) (source left : Left) (old new : Held) (e : End) → PrintedEnd table texts s source left old new e → PrintEnds texts s source left old new (status_of e)
  print_ends s source left old new e (is_early is taken put) = before_the_stream (early_answer s e is) taken put
  print_ends s source left old new e (is_late p same is) = subst (PrintEnds texts s source left old new) (sym same) (at_the_stream p (by_table is))

  pub printed : (a : Asked) (source left : Left) (old new : Held) (e : End) → OnPrint (Some a) (λ s. PrintedEnd table texts s source left old new e) → OnPrint (Some a) (λ s. PrintEnds texts s source left old new (status_of e))
  printed (compile s) source left old new e is = tt
  printed (check s) source left old new e is = tt
  printed (print s) source left old new e is = print_ends s source left old new e is
  printed (make n) source left old new e is = tt

-- ---- a count that rose tells the answer

not_risen : (before now : ℕ) → now ≡ before → before < now → ⊥
not_risen before now same rose = omega (arith, same, rose)

same_faults : (k : Kind) (old new : FileCounts) → CountsRefusal k old new → new.faults ≡ old.faults
same_faults kind.MissingFile old new counted = counted.1
same_faults kind.TooLong old new counted = counted.1
same_faults _ old new counted = ap (λ (c : FileCounts). c.faults) counted

fetched : (old new : FileCounts) (s : Status) → CountsFiles old new s → old.faults < new.faults → s ≡ status.ReadFault
fetched old new status.ReadFault counted rose = refl
fetched old new (status.Refused f) counted rose = absurd (not_risen old.faults new.faults (same_faults f.kind old new counted) rose)
fetched old new status.Done counted rose = absurd (not_risen old.faults new.faults (ap (λ (c : FileCounts). c.faults) counted) rose)
fetched old new status.Usage counted rose = absurd (not_risen old.faults new.faults (ap (λ (c : FileCounts). c.faults) counted) rose)
fetched old new status.WriteFault counted rose = absurd (not_risen old.faults new.faults (ap (λ (c : FileCounts). c.faults) counted) rose)
fetched old new status.Memory counted rose = absurd (not_risen old.faults new.faults (ap (λ (c : FileCounts). c.faults) counted) rose)

nothing_fetched : {Z : Type 0} (old new : FileCounts) → new ≡ old → old.faults < new.faults → Z
nothing_fetched old new same rose = absurd (not_risen old.faults new.faults (ap (λ (c : FileCounts). c.faults) same) rose)

pub failed_fetch : (a : Option Asked) (old new : FileCounts) (before after : ℕ) (s : Status) → CountsReadIf a old new before after s → old.faults < new.faults → s ≡ status.ReadFault
failed_fetch None old new before after s counted rose = nothing_fetched old new counted.1 rose
failed_fetch (Some (compile t)) old new before after s counted rose = fetched old new s counted.0 rose
failed_fetch (Some (check t)) old new before after s counted rose = fetched old new s counted.0 rose
failed_fetch (Some (print t)) old new before after s (inl counted) rose = fetched old new s counted.0 rose
failed_fetch (Some (print t)) old new before after s (inr counted) rose = nothing_fetched old new counted.0 rose
failed_fetch (Some (make n)) old new before after s counted rose = nothing_fetched old new counted.1 rose

taken : (before after : ℕ) (s : Status) → CountsInput before after s → before < after → s ≡ status.ReadFault
taken before after status.ReadFault counted rose = refl
taken before after (status.Refused f) counted rose = absurd (not_risen before after counted rose)
taken before after status.Done counted rose = absurd (not_risen before after counted rose)
taken before after status.Usage counted rose = absurd (not_risen before after counted rose)
taken before after status.WriteFault counted rose = absurd (not_risen before after counted rose)
taken before after status.Memory counted rose = absurd (not_risen before after counted rose)

pub failed_take : (a : Option Asked) (old new : FileCounts) (before after : ℕ) (s : Status) → CountsReadIf a old new before after s → before < after → s ≡ status.ReadFault
failed_take None old new before after s counted rose = absurd (not_risen before after counted.2 rose)
failed_take (Some (compile t)) old new before after s counted rose = absurd (not_risen before after counted.1 rose)
failed_take (Some (check t)) old new before after s counted rose = absurd (not_risen before after counted.1 rose)
failed_take (Some (print t)) old new before after s (inl counted) rose = absurd (not_risen before after counted.1 rose)
failed_take (Some (print t)) old new before after s (inr counted) rose = taken before after s counted.1 rose
failed_take (Some (make n)) old new before after s counted rose = absurd (not_risen before after counted.2 rose)

pub failed_put : (old new : SinkCounts) (s : Status) → CountsOut old new s → old.faults < new.faults → s ≡ status.WriteFault
failed_put old new status.WriteFault counted rose = refl
failed_put old new status.Memory counted rose = absurd (not_risen old.faults new.faults counted.0 rose)
failed_put old new (status.Refused f) counted rose = absurd (not_risen old.faults new.faults (ap (λ (c : SinkCounts). c.faults) counted) rose)
failed_put old new status.Done counted rose = absurd (not_risen old.faults new.faults (ap (λ (c : SinkCounts). c.faults) counted) rose)
failed_put old new status.Usage counted rose = absurd (not_risen old.faults new.faults (ap (λ (c : SinkCounts). c.faults) counted) rose)
failed_put old new status.ReadFault counted rose = absurd (not_risen old.faults new.faults (ap (λ (c : SinkCounts). c.faults) counted) rose)

-- and the answer tells that one rose
pub fault_rose : (a : Option Asked) (old new : FileCounts) (before after : ℕ) → CountsReadIf a old new before after status.ReadFault → Rose old.faults new.faults ⊎ Rose before after
fault_rose None old new before after counted = absurd counted.0
fault_rose (Some (compile t)) old new before after counted = inl counted.0.0
fault_rose (Some (check t)) old new before after counted = inl counted.0.0
fault_rose (Some (print t)) old new before after (inl counted) = inl counted.0.0
fault_rose (Some (print t)) old new before after (inr counted) = inr counted.1
fault_rose (Some (make n)) old new before after counted = absurd counted.0

pub read_fault : (a : Option Asked) (old new : FileCounts) (before after : ℕ) (s : Status) → CountsReadIf a old new before after s → OnReadFault s (Rose old.faults new.faults ⊎ Rose before after)
read_fault a old new before after status.ReadFault counted = fault_rose a old new before after counted
read_fault a old new before after (status.Refused f) counted = tt
read_fault a old new before after status.Done counted = tt
read_fault a old new before after status.Usage counted = tt
read_fault a old new before after status.WriteFault counted = tt
read_fault a old new before after status.Memory counted = tt

-- ---- an end is no wrong use

some_or_none : (x : Asked) → Some x ≡ None → ⊥
some_or_none x is = cc

pub is_usage : (asked : Option Asked) (a : Asked) (e : End) → asked ≡ Some a → IsUsage asked (status_of e)
is_usage None a e is = absurd (some_or_none a (sym is))
is_usage (Some x) a end.Done is = some_or_none x
is_usage (Some x) a (end.Refused f o) is = some_or_none x
is_usage (Some x) a end.ReadFault is = some_or_none x
is_usage (Some x) a end.WriteFault is = some_or_none x
is_usage (Some x) a end.Memory is = tt

pub same_asked : (x y : Asked) → Some x ≡ Some y → x ≡ y
same_asked x y is = cc

-- ---- where memory runs out before anything is done

pub unless_any : {P : Type 0} (a : Option Asked) → P → UnlessPrint a P
unless_any None p = p
unless_any (Some (compile s)) p = p
unless_any (Some (check s)) p = p
unless_any (Some (print s)) p = tt
unless_any (Some (make n)) p = p

pub on_make : {P : Type 0} (a : Option Asked) → P → OnMake a P
on_make None p = tt
on_make (Some (compile s)) p = tt
on_make (Some (check s)) p = tt
on_make (Some (print s)) p = tt
on_make (Some (make n)) p = p

pub on_check : {P : Type 0} (a : Option Asked) → P → OnCheck a P
on_check None p = tt
on_check (Some (compile s)) p = tt
on_check (Some (check s)) p = p
on_check (Some (print s)) p = tt
on_check (Some (make n)) p = tt

pub nothing_printed : (a : Option Asked) (texts : Texts) (source : Left) (held : Held) → OnPrint a (λ s. PrintEnds texts s source source held held status.Memory)
nothing_printed None texts source held = tt
nothing_printed (Some (compile s)) texts source held = tt
nothing_printed (Some (check s)) texts source held = tt
nothing_printed (Some (print s)) texts source held = before_the_stream tt refl refl
nothing_printed (Some (make n)) texts source held = tt

pub nothing_counted : (a : Option Asked) (counts : FileCounts) (taken : ℕ) → CountsReadIf a counts counts taken taken status.Memory
nothing_counted None counts taken = (tt, refl, refl)
nothing_counted (Some (compile s)) counts taken = (refl, refl)
nothing_counted (Some (check s)) counts taken = (refl, refl)
nothing_counted (Some (print s)) counts taken = inl (refl, refl)
nothing_counted (Some (make n)) counts taken = (tt, refl, refl)
