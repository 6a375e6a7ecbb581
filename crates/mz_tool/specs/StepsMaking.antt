-- Mirror of src/make.rt; private clauses only.
use Rattle.std.specs.Prelude.{◌≡◌, ℕ, [], ◌∷◌, length}
use Rattle.mz_io.specs.Sink.{Held, Adds, AddsPrefix}
use Rattle.mz_io.specs.SureFiles.{SureTexts}
use Rattle.fz_program.specs.Flat.{Program}
use Rattle.fz_text.specs.Spelling.{spelling}
use Rattle.mz_tool.specs.declared.end.End.{End}
use Rattle.mz_tool.specs.declared.end.End.TheVariants as end
use Rattle.mz_tool.specs.Making.{made_name, model_text, summary_of}

-- what is left of the summary of a model of this many bytes
abbrev pub IsSummarized : ℕ → Program → Held → Held → End → Type 0
IsSummarized model flat old new end.Done = Adds old new (summary_of model (length (spelling flat)) flat)
IsSummarized model flat old new end.WriteFault = AddsPrefix old new (summary_of model (length (spelling flat)) flat)
IsSummarized model flat old new end.Memory = new ≡ old
IsSummarized model flat old new _ = ⊥

-- the one file of the model of a number
abbrev pub IsMadeFiles : ℕ → SureTexts → Type 0
IsMadeFiles n files = files.entries ≡ (made_name, model_text n) ∷ []
