-- The summary of the model that `make` makes, and the one file that it is read from.
use Rattle.std.proofs.Common.{◌≡◌, ◌∙◌, ℕ, List, [], ◌∷◌, ◌++◌, Some, length, append_assoc, ap}
use Rattle.fz_program.specs.Flat.{Program}
use Rattle.fz_text.specs.Spelling.{spelling}
use Rattle.mz_io.specs.SureFiles.{SureTexts}
use Rattle.mz_tool.specs.declared.end.End.TheVariants as end
use Rattle.mz_tool.specs.Making.{made_name, model_text}
use Rattle.mz_tool.specs.StepsCompiling.{IsWritten}
use Rattle.mz_tool.specs.StepsMaking.{IsMadeFiles}

-- four pieces, one after the other
pub four_joined : (a b c d first second third fourth : List ℕ) → first ≡ a → second ≡ first ++ b → third ≡ second ++ c → fourth ≡ third ++ d → fourth ≡ a ++ (b ++ (c ++ d))
four_joined a b c d first second third fourth e f g h = rw (h, g, f, e) (append_assoc (a ++ b) c d ∙ append_assoc a b (c ++ d))

same_bytes : (a b : List ℕ) → Some a ≡ Some b → a ≡ b
same_bytes a b same = cc

-- the bytes that a sink holds which held nothing
pub all_written : (p : Program) (old new : List ℕ) → old ≡ [] → IsWritten p (Some old) (Some new) end.Done → length new ≡ length (spelling p)
all_written p old new none put = ap length (same_bytes new (spelling p) (rw none at put))

abbrev one_file : List ℕ → List ℕ → SureTexts
one_file name text = record { entries = (name, text) ∷ []; misses = 0; overruns = 0 }

pub file_made : (name text bytes : List ℕ) → name ≡ made_name → bytes ≡ text → one_file name bytes ≡ one_file made_name text
file_made name text bytes named same = ap (λ n. one_file n bytes) named ∙ ap (one_file made_name) same

pub files_made : (n : ℕ) (text : List ℕ) (files : SureTexts) → text ≡ model_text n → files ≡ one_file made_name text → IsMadeFiles n files
files_made n text files same is = ap (λ (f : SureTexts). f.entries) is ∙ ap (λ t. (made_name, t) ∷ []) same
