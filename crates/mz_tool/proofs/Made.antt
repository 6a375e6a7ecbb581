-- The model that `make` makes, read from the one file in memory.
use Rattle.std.proofs.Common.{◌≡◌, ℕ, List, Some, refl, sym, ap, subst, arith}
use Rattle.std.specs.Prelude.{Err}
use Rattle.std.proofs.lemmas.Int.{ints}
use Rattle.mz_base.specs.Names.{text_of}
use Rattle.mz_io.specs.Files.{Texts}
use Rattle.mz_io.specs.MemFiles as memory
use Rattle.mz_io.specs.Sink.{Held}
use Rattle.mz_io.specs.SureFiles.{SureTexts, counts_of}
use Rattle.mz_include.specs.declared.end.GatherEnd.{GatherEnd}
use Rattle.mz_include.specs.declared.end.GatherEnd.TheVariants as gathered
use Rattle.mz_include.specs.Ends as gather
use Rattle.mz_words.specs.Requests.{Settings, IsWithinLimits, make}
use Rattle.fz_program.specs.Names.{Name}
use Rattle.fz_program.specs.Flat.{Program}
use Rattle.mz_tool.specs.Making.{made_settings, made_texts}
use Rattle.mz_tool.specs.Status.{IsNoReadFault, IsRefusal}
use Rattle.mz_tool.specs.StepsCompiling.{IsFlatOf}
use Rattle.mz_tool.specs.StepsEnding.{Ends, failed_end, status_of}
use Rattle.mz_tool.specs.StepsMaking.{IsMadeFiles}

defaults_within : IsWithinLimits made_settings
defaults_within = record { budget = (omega arith, omega arith); least_range = omega (arith, ints); greatest_range = omega (arith, ints) }

pub made_within : (s : Settings) → s ≡ made_settings → IsWithinLimits s
made_within s same = subst IsWithinLimits (sym same) defaults_within

its_texts : (n : ℕ) (files : SureTexts) → IsMadeFiles n files → Some (memory.text_of files.entries) ≡ made_texts n
its_texts n files is = ap (λ es. Some (memory.text_of es)) is

pub made_flat : (table : List Name) (n : ℕ) (files : SureTexts) (s : Settings) (flat : Program) → IsMadeFiles n files → s ≡ made_settings → IsFlatOf table (Some (memory.text_of files.entries)) s flat → IsFlatOf table (made_texts n) made_settings flat
made_flat table n files s flat is same k = subst (λ t. IsFlatOf table t made_settings flat) (its_texts n files is) (subst (λ t. IsFlatOf table (Some (memory.text_of files.entries)) t flat) same k)

pub failed_made : (X : Type 0) (table : List Name) (texts : Texts) (n : ℕ) (files : SureTexts) (s : Settings) (h : Held) (e : GatherEnd) → IsMadeFiles n files → s ≡ made_settings
    → gather.IfRefused {X = X} (Err e) (λ f k. IsRefusal table (Some (memory.text_of files.entries)) s f (text_of table k)) → Ends table texts (make n) h h (failed_end e)
failed_made X table texts n files s h (gathered.Refused f k) is same refused =
    (refl, subst (λ t. IsRefusal table t made_settings f (text_of table k)) (its_texts n files is) (subst (λ t. IsRefusal table (Some (memory.text_of files.entries)) t f (text_of table k)) same refused))
failed_made X table texts n files s h gathered.ReadFault is same refused = refl
failed_made X table texts n files s h gathered.Memory is same refused = refl

-- no fetch of files in memory fails
pub failed_sure : (X : Type 0) (old new : SureTexts) (e : GatherEnd) → gather.CountsFiles {X = X} (counts_of old) (counts_of new) (Err e) → IsNoReadFault (status_of (failed_end e))
failed_sure X old new (gathered.Refused f k) counted = tt
failed_sure X old new gathered.ReadFault counted = let rose = counted.0.1 in absurd (omega (arith, rose))
failed_sure X old new gathered.Memory counted = tt
