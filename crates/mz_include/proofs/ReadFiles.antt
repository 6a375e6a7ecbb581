-- The files that are read so far, and those that are named.
use Rattle.std.proofs.Common.{◌≡◌, ◌<◌, ℕ, List, [], ◌∷◌, ◌++◌, length, map, slice_get, refl, sym, ap, subst, ◌∙◌, fold}
use Rattle.std.specs.Prelude.{Option, Some, None, Err, All}
use Rattle.std.specs.Option.{option_map}
use Rattle.std.specs.List.{flat_map}
use Rattle.std.proofs.lemmas.List.{map-append, length-map}
use Rattle.std.proofs.lemmas.List.Elements.{All-head, All-tail, All-get_or}
use Rattle.std.proofs.lemmas.Option.{slice_get_within, get_or_from_slice_get, slice_get-map}
use Rattle.mz_base.specs.declared.fault.Fault.{Fault}
use Rattle.mz_base.specs.Names.{text_of, Grows}
use Rattle.mz_io.specs.Files.{Texts}
use Rattle.mz_tree.specs.declared.source.SourceFile.{SourceFile}
use Rattle.mz_tree.specs.Items.{item}
use Rattle.mz_include.specs.declared.queue.Mention.{Mention as CodeMention}
use Rattle.mz_include.specs.Naming.{Mention, File, the_model, included_by, included, with_mention, first_mentions, named, next}
use Rattle.mz_include.specs.Sources.{IsLoaded, AreRead, none_yet, one_more, IsSources, Fails, IsFirstFailure}
use Rattle.mz_include.specs.declared.end.GatherEnd.{GatherEnd}
use Rattle.mz_include.specs.declared.end.GatherEnd.TheVariants.{Refused, ReadFault, Memory}
use Rattle.mz_include.specs.Ends.{IfRefused}
use Rattle.mz_include.specs.Views.{file, mention, IsKnown, IsFileOf, AreKnown}
use Rattle.mz_include.proofs.KnownFiles.{file_of_later, files_known_later, no_files, files_known_push, each_named}
use Rattle.mz_include.proofs.Later.{included_same, named_same, read_later, loaded_later, named_push}
use Rattle.mz_include.proofs.Noting.{mentions_later}

-- the file's name is of this table
abbrev IsNamed : List (List ℕ) → SourceFile → Type 0
IsNamed names f = f.name < length names

-- where the table has grown from old to new
module _ (old new : List (List ℕ)) (grows : Grows old new) where
  file_later : (f : SourceFile) → IsNamed old f → file new f ≡ file old f
  file_later f below = ap (λ (t : List ℕ). let v : File = record { name = t; items = map item f.items.items; end = f.end } in v) (grows f.name below).1

  files_later : (fs : List SourceFile) → All (IsNamed old) fs → map (file new) fs ≡ map (file old) fs
  files_later [] all = refl
  files_later (f ∷ fs) all = ap (λ v. v ∷ map (file new) fs) (file_later f (All-head (IsNamed old) f fs all)) ∙ ap (λ vs. file old f ∷ vs) (files_later fs (All-tail (IsNamed old) f fs all))

-- what is read and named so far
pub record Gathered (names : List (List ℕ)) (texts : Texts) (first : List ℕ) (queue : List CodeMention) (files : List SourceFile) : Type 0 where
  pub queued : map (mention names) queue ≡ named names first (map (file names) files)
  pub known : All (IsKnown names) queue
  pub read : AreRead names texts first (map (file names) files)
  pub files_known : AreKnown names files

-- before any file is read, the model alone is named
pub gathered_at_first : (names : List (List ℕ)) (texts : Texts) (first : List ℕ) (queue : List CodeMention) → map (mention names) queue ≡ the_model first ∷ [] → All (IsKnown names) queue → Gathered names texts first queue []
unfolding Rattle.mz_include.specs.Naming.named first_mentions with_mention
gathered_at_first names texts first queue queued known = record { queued = queued; known = known; read = none_yet; files_known = no_files names }

module _ (old : List (List ℕ)) (texts : Texts) (first : List ℕ) (queue : List CodeMention) (files : List SourceFile) (so_far : Gathered old texts first queue files) where
  -- whose turn it is
  turn_of : (o : Option CodeMention) → o ≡ slice_get queue (length files) → next old first (map (file old) files) ≡ option_map (mention old) o
  turn_of o is =
      ap (λ ms. slice_get ms (length (map (file old) files))) (sym so_far.queued)
      ∙ ap (slice_get (map (mention old) queue)) (length-map files (file old))
      ∙ slice_get-map (mention old) queue (length files) ∙ ap (option_map (mention old)) (sym is)

  -- no file is named that isn't read
  pub all_read : None ≡ slice_get queue (length files) → IsSources old texts first (map (file old) files)
  all_read is = record { read = so_far.read; all = turn_of None is }

  module _ (m : CodeMention) (is : Some m ≡ slice_get queue (length files)) where
    -- the file whose turn it is fails
    pub first_failure : (new : List (List ℕ)) → Grows old new → (f : Fault) (owner : List ℕ) → Fails new texts (length files) (mention old m) f owner → IsFirstFailure new texts first f owner
    first_failure new grows f owner fails = record {
      files = map (file old) files;
      mention = mention old m;
      read = read_later old new grows texts first (map (file old) files) so_far.read;
      turn = ap (λ ms. slice_get ms (length (map (file old) files))) (named_same old new grows texts first (map (file old) files) so_far.read) ∙ turn_of (Some m) is;
      fails = subst (λ turn. Fails new texts turn (mention old m) f owner) (sym (length-map files (file old))) fails;
    }

    -- the file whose turn it is is read, and what it includes is noted
    pub gathered_on : (mid new : List (List ℕ)) → Grows old mid → Grows mid new → Grows old new → (f : SourceFile) → IsFileOf mid (length files) f → IsLoaded mid texts (length files) (mention old m) (file mid f)
        → (later : List CodeMention) → map (mention new) later ≡ fold with_mention (map (mention mid) queue) (flat_map (included_by mid (text_of mid f.name)) (map item f.items.items)) → All (IsKnown new) later
        → Gathered new texts first later (files ++ f ∷ [])
    unfolding included
    gathered_on mid new g h gh f of loaded later noted known =
        let olds = map (file old) files in
        let same : map (file new) (files ++ f ∷ []) ≡ olds ++ file new f ∷ [] = map-append (file new) files (f ∷ []) ∙ ap (λ fs. fs ++ file new f ∷ []) (files_later old new gh files (each_named old files so_far.files_known)) in
        let renamed : file new f ≡ file mid f = file_later mid new h f of.name in
        let included_then : included new (file new f) ≡ included mid (file mid f) = ap (included new) renamed ∙ included_same mid new h texts (length files) (mention old m) (file mid f) loaded in
        record {
          queued = noted
              ∙ ap (λ ms. fold with_mention ms (included mid (file mid f))) (mentions_later old mid g queue so_far.known ∙ so_far.queued ∙ sym (named_same old new gh texts first olds so_far.read))
              ∙ ap (fold with_mention (named new first olds)) (sym included_then)
              ∙ sym (named_push new first olds (file new f)) ∙ ap (named new first) (sym same);
          known = known;
          read = subst (AreRead new texts first) (sym same) (one_more (read_later old new gh texts first olds so_far.read)
              (ap (λ ms. slice_get ms (length olds)) (named_same old new gh texts first olds so_far.read) ∙ turn_of (Some m) is)
              (subst (λ turn. IsLoaded new texts turn (mention old m) (file new f)) (sym (length-map files (file old)))
              (subst (IsLoaded new texts (length files) (mention old m)) (sym renamed) (loaded_later mid new h texts (length files) (mention old m) (file mid f) loaded))));
          files_known = files_known_push new files f (files_known_later old new gh files so_far.files_known) (file_of_later mid new h (length files) f of);
        }

-- whose turn it is, by how many files are read
pub at_turn : (queue : List CodeMention) (files : List SourceFile) (o : Option CodeMention) (turn : ℕ) → turn ≡ length files → o ≡ slice_get queue turn → o ≡ slice_get queue (length files)
at_turn queue files o turn same is = subst (λ k. o ≡ slice_get queue k) same is

-- what is read so far, as it lies in memory
pub gathered_as : (names : List (List ℕ)) (texts : Texts) (first : List ℕ) (queue : List CodeMention) (files all : List SourceFile) → all ≡ files → Gathered names texts first queue files → Gathered names texts first queue all
gathered_as names texts first queue files all same so_far = subst (Gathered names texts first queue) (sym same) so_far

-- what is said of the files as they are, and of whose turn it is
pub loaded_at : (names : List (List ℕ)) (texts now : Texts) (m : Mention) (f : File) (turn k : ℕ) → turn ≡ k → now ≡ texts → IsLoaded names now turn m f → IsLoaded names texts k m f
loaded_at names texts now m f turn k same kept loaded = subst (λ t. IsLoaded names texts t m f) same (subst (λ ts. IsLoaded names ts turn m f) kept loaded)

pub fails_at : (names : List (List ℕ)) (texts now : Texts) (m : Mention) (f : Fault) (owner : List ℕ) (turn k : ℕ) → turn ≡ k → now ≡ texts → Fails names now turn m f owner → Fails names texts k m f owner
fails_at names texts now m f owner turn k same kept fails = subst (λ t. Fails names texts t m f owner) same (subst (λ ts. Fails names ts turn m f owner) kept fails)

-- what holds of each element holds of the one at a place
pub holds_at : {X : Type 0} (P : X → Type 0) (xs : List X) (k : ℕ) (x : X) → All P xs → Some x ≡ slice_get xs k → P x
holds_at P xs k x all is = subst P (get_or_from_slice_get xs k x x (sym is)) (All-get_or P xs k x (slice_get_within xs k x (sym is)) all)

-- the answer of a part that ends the whole
pub refused_then : (X Y : Type 0) (P Q : Fault → ℕ → Type 0) (end : GatherEnd) → ((f : Fault) (n : ℕ) → P f n → Q f n) → IfRefused {X = X} (Err end) P → IfRefused {X = Y} (Err end) Q
refused_then X Y P Q (Refused f n) step h = step f n h
refused_then X Y P Q ReadFault step h = tt
refused_then X Y P Q Memory step h = tt
