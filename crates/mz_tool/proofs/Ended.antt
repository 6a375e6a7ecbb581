-- How the commands end: what a model that is compiled leaves, and what a refusal does.
use Rattle.std.proofs.Common.{◌≡◌, ◌∙◌, ℕ, ◌<◌, List, length, refl, sym, ap, subst, arith}
use Rattle.std.specs.Prelude.{Err}
use Rattle.mz_base.specs.declared.stop.Stop.{Stop}
use Rattle.mz_base.specs.declared.stop.Stop.TheVariants as stop
use Rattle.mz_base.specs.Faults as stops
use Rattle.mz_base.specs.Names.{text_of}
use Rattle.mz_io.specs.Files.{Texts, FileCounts}
use Rattle.mz_io.specs.Sink.{Held, SinkCounts, Adds, AddsPrefix}
use Rattle.mz_include.specs.declared.end.GatherEnd.{GatherEnd}
use Rattle.mz_include.specs.declared.end.GatherEnd.TheVariants as gathered
use Rattle.mz_include.specs.Ends as gather
use Rattle.mz_analysis.specs.Analysis.{files_read, items_read}
use Rattle.mz_words.specs.Requests.{Settings, Asked, compile, check, make}
use Rattle.mz_core.specs.Program.{PlainProgram, plain_program}
use Rattle.mz_meaning.specs.Walk.{Limits}
use Rattle.mz_model_meaning.specs.Refusals as walks
use Rattle.fz_program.specs.Names.{Name}
use Rattle.fz_program.specs.Flat.{Program}
use Rattle.fz_text.specs.Spelling.{spelling}
use Rattle.mz_tool.specs.Compiled.{IsCompiled, CompileEnds}
use Rattle.mz_print_model.specs.Printing.{PrintingEnds}
use Rattle.mz_tool.specs.declared.checking.Checked.{Checked}
use Rattle.mz_tool.specs.declared.end.End.{End}
use Rattle.mz_tool.specs.declared.end.End.TheVariants as end
use Rattle.mz_tool.specs.Making.{made_settings, made_texts, model_text, summary, summary_of}
use Rattle.mz_tool.specs.Headline.{limits_of}
use Rattle.mz_tool.specs.Status.{IsNoReadFault, IsRefusedBy, CountsFiles, CountsOut}
use Rattle.mz_tool.specs.StepsChecking.{IsChecked}
use Rattle.mz_tool.specs.StepsCompiling.{IsFlatOf, IsWritten}
use Rattle.mz_tool.specs.StepsEnding.{Ends, IsNamedEnd, failed_end, status_of}
use Rattle.mz_tool.specs.StepsMaking.{IsSummarized}

-- ---- a model that is compiled

pub is_flat : (table : List Name) (texts : Texts) (s : Settings) (c : Checked) (flat : Program) → IsChecked table texts s c → IsCompiled (limits_of s) table (plain_program c.program) flat → IsFlatOf table texts s flat
is_flat table texts s c flat is k = record {
  compiles = record {
    files = files_read table c.read;
    items = items_read c.read;
    sources = is.sources;
    compiled = record { model = plain_program c.program; typed = is.program.typed; program = flat; keeps = k.keeps; front = k.front; spelled = record { well_formed = k.formed; spelled = refl } };
  };
  program = refl;
  formed = k.formed;
}

pub written : (table : List Name) (texts : Texts) (s : Settings) (flat : Program) (old new : Held) (e : End) → IsFlatOf table texts s flat → IsWritten flat old new e → Ends table texts (compile s) old new e
written table texts s flat old new end.Done is put = record { written = spelling flat; compiles = is.compiles; leaves = put }
written table texts s flat old new end.WriteFault is put = record { written = spelling flat; compiles = is.compiles; leaves = put }
written table texts s flat old new end.Memory is put = put
written table texts s flat old new (end.Refused f o) is put = absurd put
written table texts s flat old new end.ReadFault is put = absurd put

pub written_named : (table : List Name) (flat : Program) (old new : Held) (e : End) → IsWritten flat old new e → IsNamedEnd table e
written_named table flat old new end.Done put = tt
written_named table flat old new end.WriteFault put = tt
written_named table flat old new end.Memory put = tt
written_named table flat old new (end.Refused f o) put = absurd put
written_named table flat old new end.ReadFault put = absurd put

-- no file is read while it is written
pub written_counts : (flat : Program) (old new : Held) (e : End) (before after : FileCounts) → IsWritten flat old new e → after ≡ before → CountsFiles before after (status_of e)
written_counts flat old new end.Done before after put same = same
written_counts flat old new end.WriteFault before after put same = same
written_counts flat old new end.Memory before after put same = same
written_counts flat old new (end.Refused f o) before after put same = absurd put
written_counts flat old new end.ReadFault before after put same = absurd put

pub checked : (table : List Name) (texts : Texts) (s : Settings) (flat : Program) (h : Held) → IsFlatOf table texts s flat → Ends table texts (check s) h h end.Done
checked table texts s flat h is = record { written = spelling flat; compiles = is.compiles; leaves = refl }

-- ---- a summary

its_summary : (n model : ℕ) (flat program : Program) → model ≡ length (model_text n) → program ≡ flat → summary_of model (length (spelling flat)) flat ≡ summary n (spelling flat) program
its_summary n model flat program size same = ap (λ k. summary_of k (length (spelling flat)) flat) size ∙ ap (summary n (spelling flat)) (sym same)

pub summarized : (table : List Name) (texts : Texts) (n model : ℕ) (flat : Program) (old new : Held) (e : End) → model ≡ length (model_text n) → IsFlatOf table (made_texts n) made_settings flat → IsSummarized model flat old new e → Ends table texts (make n) old new e
summarized table texts n model flat old new end.Done size is put = record {
  written = spelling flat;
  compiles = is.compiles;
  leaves = subst (Adds old new) (its_summary n model flat is.compiles.compiled.program size is.program) put;
}
summarized table texts n model flat old new end.WriteFault size is put = record {
  written = spelling flat;
  compiles = is.compiles;
  leaves = subst (AddsPrefix old new) (its_summary n model flat is.compiles.compiled.program size is.program) put;
}
summarized table texts n model flat old new end.Memory size is put = put
summarized table texts n model flat old new (end.Refused f o) size is put = absurd put
summarized table texts n model flat old new end.ReadFault size is put = absurd put

pub summarized_named : (table : List Name) (model : ℕ) (flat : Program) (old new : Held) (e : End) → IsSummarized model flat old new e → IsNamedEnd table e
summarized_named table model flat old new end.Done put = tt
summarized_named table model flat old new end.WriteFault put = tt
summarized_named table model flat old new end.Memory put = tt
summarized_named table model flat old new (end.Refused f o) put = absurd put
summarized_named table model flat old new end.ReadFault put = absurd put

pub summarized_sure : (model : ℕ) (flat : Program) (old new : Held) (e : End) → IsSummarized model flat old new e → IsNoReadFault (status_of e)
summarized_sure model flat old new end.Done put = tt
summarized_sure model flat old new end.WriteFault put = tt
summarized_sure model flat old new end.Memory put = tt
summarized_sure model flat old new (end.Refused f o) put = tt
summarized_sure model flat old new end.ReadFault put = put

-- ---- a refusal, a file that isn't read, or no memory

pub failed_ends : (X : Type 0) (table : List Name) (texts : Texts) (a : Asked) (h : Held) (e : GatherEnd) → gather.IfRefused {X = X} (Err e) (λ f n. IsRefusedBy table texts a f (text_of table n)) → Ends table texts a h h (failed_end e)
failed_ends X table texts a h (gathered.Refused f n) refused = (refl, refused)
failed_ends X table texts a h gathered.ReadFault refused = refl
failed_ends X table texts a h gathered.Memory refused = refl

pub failed_named : (X : Type 0) (table : List Name) (e : GatherEnd) → gather.IfRefused {X = X} (Err e) (λ f n. n < length table) → IsNamedEnd table (failed_end e)
failed_named X table (gathered.Refused f n) named = named
failed_named X table gathered.ReadFault named = tt
failed_named X table gathered.Memory named = tt

pub failed_counts : (X : Type 0) (old new : FileCounts) (e : GatherEnd) → gather.CountsFiles {X = X} old new (Err e) → CountsFiles old new (status_of (failed_end e))
failed_counts X old new (gathered.Refused f n) counted = counted
failed_counts X old new gathered.ReadFault counted = counted
failed_counts X old new gathered.Memory counted = counted

pub failed_counts_out : (counts : SinkCounts) (e : GatherEnd) → CountsOut counts counts (status_of (failed_end e))
failed_counts_out counts (gathered.Refused f n) = refl
failed_counts_out counts gathered.ReadFault = refl
failed_counts_out counts gathered.Memory = (refl, omega arith)

-- ---- a walk that stops

pub compile_stops : (l : Limits) (table : List Name) (p : PlainProgram) (s : Stop) → CompileEnds l table p (Err s) → stops.IfRefused s (walks.Stops l p)
compile_stops l table p (stop.Refused f) why = why
compile_stops l table p stop.Memory why = tt

pub printing_stops : (l : Limits) (table : List Name) (p : PlainProgram) (s : Stop) → PrintingEnds l table p (Err s) → stops.IfRefused s (walks.Stops l p)
printing_stops l table p (stop.Refused f) why = why
printing_stops l table p stop.Memory why = tt
