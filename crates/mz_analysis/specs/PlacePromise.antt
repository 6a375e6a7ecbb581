-- Where the places of a typed program lie.
use Rattle.std.specs.Prelude.{ℕ, ◌<◌, List, All}
use Rattle.mz_core.specs.Program.{PlainProgram}
use Rattle.mz_scope_order.specs.Scoped.{ScopedTree}
use Rattle.mz_check_data.specs.WithData.{ChecksWithData}
use Rattle.mz_include.specs.declared.with_data.gathering.SourcesWithData.{SourcesWithData}
use Rattle.mz_analysis.specs.Known.{IsWithin}
use Rattle.mz_analysis.specs.Analysis.{IsTypedModel, IsRead, files_read, items_read, count_read}
use Rattle.mz_meaning_laws.specs.Places.{places_of}

-- in the first files, of which there are this many
abbrev pub LiesIn : ℕ → PlainProgram → Type 0
LiesIn files p = All (λ at. at.file < files) (places_of p)

-- what a scoped model is typed to with its data has its places in the files of the model and the data
abbrev pub TypingKeepsPlaces : Type 0
TypingKeepsPlaces = (names files : ℕ) (table : List (List ℕ)) (s : ScopedTree) (p : PlainProgram) → 0 < names → 0 < files → IsWithin names files s → ChecksWithData table s p → LiesIn files p

-- and so has the typed program of files that were read
abbrev pub ProgramsLieInTheirFiles : Type 0
ProgramsLieInTheirFiles = (table : List (List ℕ)) (read : SourcesWithData) (p : PlainProgram) → IsRead table read → IsTypedModel table (files_read table read) (items_read read) p → LiesIn (count_read read) p
