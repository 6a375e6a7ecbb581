-- The model with its data, as the code has them.
use Rattle.std.proofs.Common.{◌≡◌, ◌<◌, ℕ, List, [], ◌∷◌, length, map, refl, sym, ap, subst, ◌∙◌}
use Rattle.std.specs.Prelude.{All}
use Rattle.std.proofs.lemmas.List.{length-map}
use Rattle.std.proofs.lemmas.List.Elements.{All-head, All-tail}
use Rattle.mz_base.specs.declared.fault.Fault.{Fault}
use Rattle.mz_base.specs.Names.{Grows}
use Rattle.mz_io.specs.Files.{Texts}
use Rattle.mz_tree.specs.declared.source.SourceFile.{SourceFile}
use Rattle.mz_tree.specs.Items.{item}
use Rattle.mz_tree.specs.Data.{Given}
use Rattle.mz_include.specs.Naming.{File}
use Rattle.mz_include.specs.Sources.{IsSources}
use Rattle.mz_include.specs.Views.{file, AreKnown}
use Rattle.mz_include.proofs.KnownFiles.{each_named}
use Rattle.mz_include.proofs.Later.{sources_later}
use Rattle.mz_include.specs.DataFiles.{AreDataRead, FailsFirst}
use Rattle.mz_include.specs.WithData.{IsSourcesWithData, FailsWithData, in_the_data}

-- the file's name is of this table
abbrev IsNamed : List (List ℕ) → SourceFile → Type 0
IsNamed names f = f.name < length names

-- where the table has grown from old to new
module _ (old new : List (List ℕ)) (grows : Grows old new) where
  file_later : (f : SourceFile) → IsNamed old f → file new f ≡ file old f
  file_later f below = ap (λ (t : List ℕ). let v : File = record { name = t; items = map item f.items.items; end = f.end } in v) (grows f.name below).1

  files_later : (fs : List SourceFile) → All (IsNamed old) fs → map (file new) fs ≡ map (file old) fs
  files_later [] all = refl
  files_later (f ∷ fs) all = ap (λ v. v ∷ map (file new) fs) (file_later f (All-head (IsNamed old) f fs all)) ∙ ap (λ vs. file old f ∷ vs) (files_later fs (All-tail (IsNamed old) f fs all))

  module _ (texts now : Texts) (same : now ≡ texts) (first : List ℕ) (words : List (List ℕ)) (fs : List SourceFile) (model : IsSources old texts first (map (file old) fs)) where
    -- the data files are read after the model's
    pub with_data : (items : List Given) → AreKnown old fs → AreDataRead new now (length fs) words items → IsSourcesWithData new texts first words (map (file new) fs) items
    with_data items known read = record {
      model = subst (IsSources new texts first) (sym (files_later fs (each_named old fs known))) (sources_later old new grows texts first (map (file old) fs) model);
      data_files = subst (λ k. AreDataRead new texts k words items) (sym (length-map fs (file new))) (subst (λ ts. AreDataRead new ts (length fs) words items) same read);
    }

    -- a data file fails, after the model's
    pub data_fails : (f : Fault) (owner : List ℕ) → FailsFirst new now (length fs) words f owner → FailsWithData new texts first words f owner
    data_fails f owner h =
        in_the_data (map (file old) fs) (sources_later old new grows texts first (map (file old) fs) model)
        (subst (λ k. FailsFirst new texts k words f owner) (sym (length-map fs (file old))) (subst (λ ts. FailsFirst new ts (length fs) words f owner) same h))
