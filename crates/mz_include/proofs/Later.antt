-- What is read and named stays so where the table of names has grown.
use Rattle.std.proofs.Common.{◌≡◌, ℕ, List, [], ◌∷◌, ◌++◌, length, slice_get, refl, sym, ap, subst, ◌∙◌, fold, append-nil}
use Rattle.std.specs.Prelude.{All, if◌then◌else◌}
use Rattle.std.specs.List.{flat_map}
use Rattle.std.proofs.lemmas.List.Sums.{fold-append}
use Rattle.std.proofs.lemmas.Grind.{flat_map-append}
use Rattle.std.proofs.lemmas.List.Elements.{All-head, All-tail}
use Rattle.mz_base.specs.declared.fault.Fault.{Fault}
use Rattle.mz_base.specs.Names.{Grows}
use Rattle.mz_io.specs.Files.{Texts}
use Rattle.mz_lexer.specs.Lexes.{Lexes}
use Rattle.mz_lexer.proofs.Steps.{all_named_later, all_seen_later}
use Rattle.mz_tree.specs.Items.{ItemTree, include, declare, assign, constraint, solve, output, function, enum, annotation}
use Rattle.mz_include.specs.Joining.{joined}
use Rattle.mz_include.specs.Library.{is_library}
use Rattle.mz_include.specs.Trees.{IsIncludeKnown}
use Rattle.mz_include.specs.Naming.{Mention, File, the_model, included_by, included, with_mention, first_mentions, named}
use Rattle.mz_include.specs.Parsing.{AreTokens, IsUnparsed, by_its_bytes, by_its_tokens}
use Rattle.mz_include.specs.Sources.{IsLoaded, AreRead, none_yet, one_more, IsSources, Fails, missing, too_long, unparsed, IsFirstFailure}
use Rattle.mz_include.proofs.KnownItems.{items_known}

-- what an item includes, when the table has grown
pub included_later : (old new : List (List ℕ)) (owner : List ℕ) (i : ItemTree) → Grows old new → IsIncludeKnown old i → included_by new owner i ≡ included_by old owner i
included_later old new owner (include n s) grows known =
    ap (λ (t : List ℕ). if is_library t then [] else (let v : Mention = record { name = joined owner t; span = s; owner = owner } in v) ∷ []) (grows n known).1
included_later old new owner (declare d) grows known = refl
included_later old new owner (assign n s e) grows known = refl
included_later old new owner (constraint e) grows known = refl
included_later old new owner (solve s g) grows known = refl
included_later old new owner (output e) grows known = refl
included_later old new owner (function f) grows known = refl
included_later old new owner (enum n s cs) grows known = refl
included_later old new owner (annotation n) grows known = refl

pub each_included_later : (old new : List (List ℕ)) (owner : List ℕ) (is : List ItemTree) → Grows old new → All (IsIncludeKnown old) is → flat_map (included_by new owner) is ≡ flat_map (included_by old owner) is
each_included_later old new owner [] grows known = refl
each_included_later old new owner (i ∷ is) grows known =
    ap (λ ms. ms ++ flat_map (included_by new owner) is) (included_later old new owner i grows (All-head (IsIncludeKnown old) i is known))
    ∙ ap (λ ms. included_by old owner i ++ ms) (each_included_later old new owner is grows (All-tail (IsIncludeKnown old) i is known))

pub flat_map_push : {X A : Type 0} (f : X → List A) (xs : List X) (x : X) → flat_map f (xs ++ x ∷ []) ≡ flat_map f xs ++ f x
flat_map_push f xs x = flat_map-append f xs (x ∷ []) ∙ ap (λ ys. flat_map f xs ++ ys) (append-nil (f x))

-- where the table has grown from old to new
module _ (old new : List (List ℕ)) (grows : Grows old new) where
  tokens_later : (turn : ℕ) (text : List ℕ) (tokens : _) → AreTokens old turn text tokens → AreTokens new turn text tokens
  tokens_later turn text tokens lexed = record {
    lexes = subst (Lexes turn text) (sym (all_seen_later old new grows tokens lexed.known)) lexed.lexes;
    known = all_named_later old new grows tokens lexed.known;
  }

  pub loaded_later : (texts : Texts) (turn : ℕ) (m : Mention) (f : File) → IsLoaded old texts turn m f → IsLoaded new texts turn m f
  loaded_later texts turn m f r = record {
    text = r.text;
    fetched = r.fetched;
    parsed = record { tokens = r.parsed.tokens; lexed = tokens_later turn r.text r.parsed.tokens r.parsed.lexed; model = r.parsed.model; end = r.parsed.end };
    name = r.name;
  }

  pub included_same : (texts : Texts) (turn : ℕ) (m : Mention) (f : File) → IsLoaded old texts turn m f → included new f ≡ included old f
  unfolding included
  included_same texts turn m f r = each_included_later old new f.name f.items grows (items_known old turn r.text r.parsed.tokens f.items r.parsed.lexed r.parsed.model)

  all_included_same : (texts : Texts) (first : List ℕ) (files : List File) → AreRead old texts first files → flat_map (included new) files ≡ flat_map (included old) files
  all_included_same texts first [] none_yet = refl
  all_included_same texts first _ (one_more {files = files} {m = m} {file = f} r n h) =
      flat_map_push (included new) files f
      ∙ ap (λ ms. ms ++ included new f) (all_included_same texts first files r)
      ∙ ap (λ ms. flat_map (included old) files ++ ms) (included_same texts (length files) m f h)
      ∙ sym (flat_map_push (included old) files f)

  pub named_same : (texts : Texts) (first : List ℕ) (files : List File) → AreRead old texts first files → named new first files ≡ named old first files
  unfolding named
  named_same texts first files r = ap (λ ms. first_mentions (the_model first ∷ ms)) (all_included_same texts first files r)

  pub read_later : (texts : Texts) (first : List ℕ) (files : List File) → AreRead old texts first files → AreRead new texts first files
  read_later texts first [] none_yet = none_yet
  read_later texts first _ (one_more {files = files} {m = m} {file = f} r n h) =
      one_more (read_later texts first files r) (ap (λ ms. slice_get ms (length files)) (named_same texts first files r) ∙ n) (loaded_later texts (length files) m f h)

  -- a model's files, as they are read
  pub sources_later : (texts : Texts) (first : List ℕ) (files : List File) → IsSources old texts first files → IsSources new texts first files
  sources_later texts first files s = record { read = read_later texts first files s.read; all = ap (λ ms. slice_get ms (length files)) (named_same texts first files s.read) ∙ s.all }

  unparsed_later : (turn : ℕ) (text : List ℕ) (f : Fault) → IsUnparsed old turn text f → IsUnparsed new turn text f
  unparsed_later turn text _ (by_its_bytes h) = by_its_bytes h
  unparsed_later turn text _ (by_its_tokens tokens lexed h) = by_its_tokens tokens (tokens_later turn text tokens lexed) h

  fails_later : (texts : Texts) (turn : ℕ) (m : Mention) (f : Fault) (owner : List ℕ) → Fails old texts turn m f owner → Fails new texts turn m f owner
  fails_later texts turn m _ _ (missing h) = missing h
  fails_later texts turn m _ _ (too_long h) = too_long h
  fails_later texts turn m _ _ (unparsed {f = f} text fetched h) = unparsed text fetched (unparsed_later turn text f h)

  pub first_failure_later : (texts : Texts) (first : List ℕ) (f : Fault) (owner : List ℕ) → IsFirstFailure old texts first f owner → IsFirstFailure new texts first f owner
  first_failure_later texts first f owner h = record {
    files = h.files;
    mention = h.mention;
    read = read_later texts first h.files h.read;
    turn = ap (λ ms. slice_get ms (length h.files)) (named_same texts first h.files h.read) ∙ h.turn;
    fails = fails_later texts (length h.files) h.mention f owner h.fails;
  }

-- one file more names what it includes
pub named_push : (names : List (List ℕ)) (first : List ℕ) (files : List File) (f : File) → named names first (files ++ f ∷ []) ≡ fold with_mention (named names first files) (included names f)
unfolding named first_mentions
named_push names first files f =
    ap (λ ms. fold with_mention [] (the_model first ∷ ms)) (flat_map_push (included names) files f)
    ∙ fold-append with_mention [] (the_model first ∷ flat_map (included names) files) (included names f)
