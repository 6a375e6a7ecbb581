-- A model with its included files and its data files, and the first of them all that fails.
use Rattle.std.specs.Prelude.{◌≡◌, ◌<◌, ◌+◌, ℕ, List, length, map, All}
use Rattle.std.specs.Borrow.{Bor}
use Rattle.mz_base.specs.declared.fault.Fault.{Fault}
use Rattle.mz_base.specs.Names.{text_of}
use Rattle.mz_io.specs.Files.{Texts}
use Rattle.mz_tree.specs.Data.{Given, given}
use Rattle.mz_tree.specs.Named.{IsGivenWithin}
use Rattle.mz_include.specs.Naming.{File}
use Rattle.mz_include.specs.Sources.{IsSources, IsFirstFailure}
use Rattle.mz_include.specs.Views.{AreKnown}
use Rattle.mz_include.specs.DataFiles.{AreDataRead, FailsFirst}
use Rattle.mz_include.specs.declared.with_data.gathering.SourcesWithData.{SourcesWithData}

-- the texts of words
abbrev pub words_of : List (Bor (List ℕ)) → List (List ℕ)
words_of words = map (λ w. w.now) words

-- The model with its included files, and then the items of its data files, which are numbered after all files of the model.
pub record IsSourcesWithData (names : List (List ℕ)) (texts : Texts) (first : List ℕ) (data_names : List (List ℕ)) (files : List File) (items : List Given) : Type 0 where
  pub model : IsSources names texts first files
  pub data_files : AreDataRead names texts (length files) data_names items

-- Why the first file that fails does so, and the name of the file of the fault's place: a file of the model fails, or all of
-- these are read, and a data file fails.
pub data FailsWithData (names : List (List ℕ)) (texts : Texts) (first : List ℕ) (data_names : List (List ℕ)) : Fault → List ℕ → Type 0 where
  in_the_model : {f : Fault} {owner : List ℕ} → IsFirstFailure names texts first f owner → FailsWithData names texts first data_names f owner
  in_the_data : {f : Fault} {owner : List ℕ} (files : List File) → IsSources names texts first files → FailsFirst names texts (length files) data_names f owner → FailsWithData names texts first data_names f owner

-- the names in an item are of a table of this many texts, and its places are in this many first files
pub record IsGivenKnown (names files : ℕ) (g : Given) : Type 0 where
  pub within : IsGivenWithin names g
  pub name : g.span.file < files
  pub value : g.at.file < files

-- What is known of all files: each name is of this table, each place in a file of the model has the file's number, and each place
-- in the data the number of one of all files; and the data files have these names.
pub record AreKnownWithData (names : List (List ℕ)) (data_names : List (List ℕ)) (s : SourcesWithData) : Type 0 where
  pub files : AreKnown names s.sources.files.items
  pub items : All (IsGivenKnown (length names) (length s.sources.files.items + length s.data_files.items)) (map given s.given_data.items.items)
  pub named : All (λ n. n < length names) s.data_files.items
  pub data_files : map (text_of names) s.data_files.items ≡ data_names
