-- The files and mentions of the code, each name as its text.
use Rattle.std.specs.Prelude.{◌≡◌, ℕ, ◌<◌, List, [], ◌∷◌, ◌++◌, length, map, fold, nat_eq, slice_get, Some, All, if◌then◌else◌}
use Rattle.std.specs.List.{list_any}
use Rattle.mz_base.specs.Names.{text_of}
use Rattle.mz_tree.specs.declared.source.SourceFile.{SourceFile}
use Rattle.mz_tree.specs.Items.{item}
use Rattle.mz_include.specs.declared.queue.Mention.{Mention as CodeMention}
use Rattle.mz_include.specs.Naming.{Mention, File, with_mention}
use Rattle.mz_include.specs.Trees.{IsItemOf}

abbrev pub file : List (List ℕ) → SourceFile → File
file names f = record { name = text_of names f.name; items = map item f.items.items; end = f.end }

-- The file's name and every name in its items are of this table, and every place in its items, and its end, are in the
-- file of this number.
pub record IsFileOf (names : List (List ℕ)) (turn : ℕ) (f : SourceFile) : Type 0 where
  pub name : f.name < length names
  pub items : All (λ i. IsItemOf names turn (item i)) f.items.items
  pub end : f.end.file ≡ turn

-- so it is of each of these files, which are numbered from 0
abbrev pub AreKnown : List (List ℕ) → List SourceFile → Type 0
AreKnown names files = (turn : ℕ) (f : SourceFile) → slice_get files turn ≡ Some f → IsFileOf names turn f

abbrev pub mention : List (List ℕ) → CodeMention → Mention
mention names m = record { name = text_of names m.name; span = m.span; owner = text_of names m.owner }

-- these mentions were noted in a queue: each whose name is new there
abbrev pub Notes : List (List ℕ) → List (List ℕ) → List CodeMention → List CodeMention → List Mention → Type 0
Notes old new queue later ms = map (mention new) later ≡ fold with_mention (map (mention old) queue) ms

-- the names of a mention are of this table
pub record IsKnown (names : List (List ℕ)) (m : CodeMention) : Type 0 where
  pub name : m.name < length names
  pub owner : m.owner < length names

-- one more mention, where the name is new
unfoldable pub with_code_mention : List CodeMention → CodeMention → List CodeMention
with_code_mention seen m = if list_any (λ s. nat_eq m.name s.name) seen then seen else seen ++ m ∷ []
