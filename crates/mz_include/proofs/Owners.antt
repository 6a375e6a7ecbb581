-- The number of a place is that of the file which is named with it.
use Rattle.std.proofs.Common.{◌≡◌, ℕ, zero, suc, List, [], ◌∷◌, ◌++◌, length, map, slice_get, true, false, Bool, cond, refl, sym, ap, subst, ◌∙◌, fold}
use Rattle.std.specs.Prelude.{Some, All, if◌then◌else◌}
use Rattle.std.specs.List.{list_any, flat_map}
use Rattle.std.specs.Str.{bytes_eq}
use Rattle.std.proofs.lemmas.List.Elements.{All-nil, All-cons, All-head, All-tail, All-push, All-weaker, All-append}
use Rattle.std.proofs.lemmas.Option.{get_or_from_slice_get, slice_get_within}
use Rattle.std.proofs.lemmas.List.Elements.{All-get_or}
use Rattle.mz_base.specs.declared.fault.Fault.{Fault}
use Rattle.mz_base.specs.declared.fault.Span.{Span}
use Rattle.mz_base.specs.Names.{text_of}
use Rattle.mz_io.specs.Files.{Texts}
use Rattle.mz_lexer.specs.declared.token.Token.{Token}
use Rattle.mz_base.specs.Faults.{start_of}
use Rattle.mz_lexer.specs.Views.{lex}
use Rattle.mz_tree.specs.Items.{ItemTree, include, declare, assign, constraint, solve, output, function, enum, annotation}
use Rattle.mz_grammar.specs.Tokens.{place_or}
use Rattle.mz_grammar.specs.Rules.{Reason, syntax, left_out, too_deep}
use Rattle.mz_grammar.specs.RulesPromise.{IsFault, reason_of}
use Rattle.mz_grammar.specs.Parts.{file}
use Rattle.mz_grammar.specs.Model.{rule}
use Rattle.mz_include.specs.Joining.{joined}
use Rattle.mz_include.specs.Library.{is_library}
use Rattle.mz_include.specs.Trees.{IsItemOf}
use Rattle.mz_include.specs.Naming.{Mention, File, the_model, included_by, included, with_mention, first_mentions, named, next}
use Rattle.mz_include.specs.Parsing.{IsUnparsed, by_its_bytes, by_its_tokens, end_of}
use Rattle.mz_include.specs.Sources.{IsLoaded, AreRead, none_yet, one_more, Fails, missing, too_long, unparsed, IsFirstFailure, HasNumber, IsInItsFile}
use Rattle.mz_include.proofs.Places.{EachIn, lexed_in, after_file}
use Rattle.mz_include.proofs.KnownItems.{items_of}
use Rattle.mz_include.proofs.Later.{named_push}

-- a mention stands in a file that is itself mentioned, at the place of its number
abbrev IsOwned : List Mention → Mention → Type 0
IsOwned ms m = HasNumber ms m.span.file m.owner

-- more mentions after these
stays : (ms more : List Mention) (k : ℕ) (m : Mention) → slice_get ms k ≡ Some m → slice_get (ms ++ more) k ≡ Some m
stays [] more zero m h = absurd (cc)
stays [] more (suc k) m h = absurd (cc)
stays (x ∷ ms) more zero m h = h
stays (x ∷ ms) more (suc k) m h = stays ms more k m h

number_stays : (ms more : List Mention) (k : ℕ) (owner : List ℕ) → HasNumber ms k owner → HasNumber (ms ++ more) k owner
number_stays ms more k owner h = (h.0, stays ms more k h.0 h.1, h.2)

number_with : (ms : List Mention) (x : Mention) (k : ℕ) (owner : List ℕ) → HasNumber ms k owner → HasNumber (with_mention ms x) k owner
unfolding with_mention
number_with ms x k owner h = go (list_any (λ (s : Mention). bytes_eq x.name s.name) ms)
  where
    go : (b : Bool) → HasNumber (cond b ms (ms ++ x ∷ [])) k owner
    go true = h
    go false = number_stays ms (x ∷ []) k owner h

owned_with : (ms : List Mention) (x : Mention) → All (IsOwned ms) ms → IsOwned ms x → All (IsOwned (with_mention ms x)) (with_mention ms x)
unfolding with_mention
owned_with ms x all h = go (list_any (λ (s : Mention). bytes_eq x.name s.name) ms)
  where
    go : (b : Bool) → All (IsOwned (cond b ms (ms ++ x ∷ []))) (cond b ms (ms ++ x ∷ []))
    go true = all
    go false = All-push (IsOwned (ms ++ x ∷ [])) ms x (All-weaker (IsOwned ms) (IsOwned (ms ++ x ∷ [])) (λ m g. number_stays ms (x ∷ []) m.span.file m.owner g) ms all) (number_stays ms (x ∷ []) x.span.file x.owner h)

-- what the file of this number and this name includes
abbrev IsFrom : ℕ → List ℕ → Mention → Type 0
IsFrom turn owner m = (m.span.file ≡ turn) × (m.owner ≡ owner)

owned_on : (turn : ℕ) (owner : List ℕ) (ms xs : List Mention) → All (IsOwned ms) ms → HasNumber ms turn owner → All (IsFrom turn owner) xs → All (IsOwned (fold with_mention ms xs)) (fold with_mention ms xs)
owned_on turn owner ms [] all h from = all
owned_on turn owner ms (x ∷ xs) all h from =
    let one : IsFrom turn owner x = All-head (IsFrom turn owner) x xs from in
    let owned : IsOwned ms x = subst (λ k. HasNumber ms k x.owner) (sym one.0) (subst (HasNumber ms turn) (sym one.1) h) in
    owned_on turn owner (with_mention ms x) xs (owned_with ms x all owned) (number_with ms x turn owner h) (All-tail (IsFrom turn owner) x xs from)

unless : (turn : ℕ) (owner : List ℕ) (b : Bool) (m : Mention) → IsFrom turn owner m → All (IsFrom turn owner) (if b then [] else m ∷ [])
unless turn owner true m h = All-nil (IsFrom turn owner)
unless turn owner false m h = All-cons (IsFrom turn owner) m [] h (All-nil (IsFrom turn owner))

one_from : (names : List (List ℕ)) (turn : ℕ) (owner : List ℕ) (i : ItemTree) → IsItemOf names turn i → All (IsFrom turn owner) (included_by names owner i)
one_from names turn owner (include n s) h = unless turn owner (is_library (text_of names n)) (record { name = joined owner (text_of names n); span = s; owner = owner }) (h.1, refl)
one_from names turn owner (declare d) h = All-nil (IsFrom turn owner)
one_from names turn owner (assign n s e) h = All-nil (IsFrom turn owner)
one_from names turn owner (constraint e) h = All-nil (IsFrom turn owner)
one_from names turn owner (solve s g) h = All-nil (IsFrom turn owner)
one_from names turn owner (output e) h = All-nil (IsFrom turn owner)
one_from names turn owner (function f) h = All-nil (IsFrom turn owner)
one_from names turn owner (enum n s cs) h = All-nil (IsFrom turn owner)
one_from names turn owner (annotation n) h = All-nil (IsFrom turn owner)

all_from : (names : List (List ℕ)) (turn : ℕ) (owner : List ℕ) (is : List ItemTree) → All (IsItemOf names turn) is → All (IsFrom turn owner) (flat_map (included_by names owner) is)
all_from names turn owner [] all = All-nil (IsFrom turn owner)
all_from names turn owner (i ∷ is) all =
    All-append (IsFrom turn owner) (included_by names owner i) (flat_map (included_by names owner) is) (one_from names turn owner i (All-head (IsItemOf names turn) i is all))
    (all_from names turn owner is (All-tail (IsItemOf names turn) i is all))

module _ (names : List (List ℕ)) (texts : Texts) (first : List ℕ) where
  included_from : (turn : ℕ) (m : Mention) (f : File) → IsLoaded names texts turn m f → All (IsFrom turn m.name) (included names f)
  unfolding included
  included_from turn m f r =
      subst (λ n. All (IsFrom turn n) (flat_map (included_by names f.name) f.items)) r.name
      (all_from names turn f.name f.items (items_of names turn r.text r.parsed.tokens f.items r.parsed.lexed r.parsed.model))

  -- each file that is named is named in one that is named
  all_owned : (files : List File) → AreRead names texts first files → All (IsOwned (named names first files)) (named names first files)
  unfolding named first_mentions with_mention
  all_owned _ none_yet = All-cons (IsOwned (the_model first ∷ [])) (the_model first) [] (the_model first, refl, refl) (All-nil (IsOwned (the_model first ∷ [])))
  all_owned _ (one_more {files = files} {m = m} {file = f} r n h) =
      subst (λ ms. All (IsOwned ms) ms) (sym (named_push names first files f))
      (owned_on (length files) m.name (named names first files) (included names f) (all_owned files r) (m, n, refl) (included_from (length files) m f h))

  token_place : (turn : ℕ) (end : Span) (ts rest : List Token) → EachIn turn (map (lex names) (ts ++ rest)) → end.file ≡ turn → (place_or end rest).file ≡ turn
  token_place turn end [] [] all at = at
  token_place turn end [] (t ∷ rest) all at = all.0
  token_place turn end (t ∷ ts) rest all at = token_place turn end ts rest all.1 at

  split_place : (turn : ℕ) (end : Span) (tokens ts rest : List Token) (at : Span) → EachIn turn (map (lex names) tokens) → end.file ≡ turn → tokens ≡ ts ++ rest → at ≡ place_or end rest → at.file ≡ turn
  split_place turn end tokens ts rest at all last split place =
      ap (λ (s : Span). s.file) place ∙ token_place turn end ts rest (subst (λ us. EachIn turn (map (lex names) us)) split all) last

  fault_place : (turn : ℕ) (end : Span) (tokens : List Token) (why : Reason) (at : Span) → EachIn turn (map (lex names) tokens) → end.file ≡ turn → IsFault rule file 120 why end tokens at → at.file ≡ turn
  fault_place turn end tokens syntax at all last h = split_place turn end tokens h.prefix h.rest at all last h.split h.place
  fault_place turn end tokens left_out at all last h = split_place turn end tokens h.prefix h.rest at all last h.split h.place
  fault_place turn end tokens too_deep at all last h = split_place turn end tokens h.prefix (h.token ∷ h.rest) at all last h.split h.place

  -- the fault of a text is in its file
  unparsed_place : (turn : ℕ) (text : List ℕ) (f : Fault) → IsUnparsed names turn text f → f.span.file ≡ turn
  unparsed_place turn text f (by_its_bytes h) = lexed_in turn h refl
  unparsed_place turn text f (by_its_tokens tokens lexed h) =
      fault_place turn (end_of turn text) tokens (reason_of f.kind) f.span (lexed_in turn lexed.lexes refl) (after_file (start_of turn) text) h.1

  fails_there : (files : List File) (m : Mention) (f : Fault) (owner : List ℕ) → AreRead names texts first files → next names first files ≡ Some m → Fails names texts (length files) m f owner → HasNumber (named names first files) f.span.file owner
  fails_there files m f owner r n (missing h) = subst (IsOwned (named names first files)) (get_or_from_slice_get (named names first files) (length files) m m n) (All-get_or (IsOwned (named names first files)) (named names first files) (length files) m (slice_get_within (named names first files) (length files) m n) (all_owned files r))
  fails_there files m f owner r n (too_long h) = subst (IsOwned (named names first files)) (get_or_from_slice_get (named names first files) (length files) m m n) (All-get_or (IsOwned (named names first files)) (named names first files) (length files) m (slice_get_within (named names first files) (length files) m n) (all_owned files r))
  fails_there files m f owner r n (unparsed {f = g} text fetched h) =
      subst (λ k. HasNumber (named names first files) k m.name) (sym (unparsed_place (length files) text g h)) (m, n, refl)

  -- the number of a first failure's place is that of the file with the name that is told
  pub failure_there : (f : Fault) (owner : List ℕ) (h : IsFirstFailure names texts first f owner) → IsInItsFile names texts first f owner h
  failure_there f owner h = fails_there h.files h.mention f owner h.read h.turn h.fails
