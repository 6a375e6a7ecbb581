-- The data files that are read so far, and one more.
use Rattle.std.proofs.Common.{◌≡◌, ◌<◌, ◌≤◌, ◌+◌, ℕ, suc, Bor, List, [], ◌∷◌, ◌++◌, length, map, take, drop, get_or, refl, sym, ap, subst, ◌∙◌, arith, append_assoc, append-nil}
use Rattle.std.specs.Prelude.{Err, All}
use Rattle.std.proofs.lemmas.List.{map_push, map-append, length-map, length-append, take_more, take-append-drop}
use Rattle.std.proofs.lemmas.List.Elements.{All-nil, All-cons, All-head, All-tail, All-push, All-append, All-weaker}
use Rattle.mz_base.specs.declared.fault.Fault.{Fault}
use Rattle.mz_base.specs.Names.{text_of, Grows}
use Rattle.mz_io.specs.Files.{Texts}
use Rattle.mz_tree.specs.Data.{Given}
use Rattle.mz_tree.specs.Named.{IsGivenWithin}
use Rattle.mz_tree.proofs.Staying.{stays}
use Rattle.mz_dzn.specs.DataFile.{IsGivenIn}
use Rattle.mz_include.specs.declared.end.GatherEnd.{GatherEnd}
use Rattle.mz_include.specs.declared.end.GatherEnd.TheVariants.{Refused, ReadFault, Memory}
use Rattle.mz_include.specs.Ends.{IfRefused}
use Rattle.mz_include.specs.DataFiles.{IsDataReading, AreDataRead, no_more, one_more, FailsAsData, FailsFirst, here, later}
use Rattle.mz_include.specs.WithData.{IsGivenKnown, words_of}
use Rattle.mz_include.proofs.LaterData.{data_later}

-- the name is of this table
abbrev IsNamed : List (List ℕ) → ℕ → Type 0
IsNamed names n = n < length names

-- these data files are read, and their items and names are known
pub record SoFar (names : List (List ℕ)) (texts : Texts) (start : ℕ) (words : List (List ℕ)) (files : List ℕ) (items : List Given) : Type 0 where
  pub read : AreDataRead names texts start words items
  pub known : All (IsGivenKnown (length names) (start + length files)) items
  pub named : All (λ n. n < length names) files
  pub words_are : map (text_of names) files ≡ words

pub none_read : (names : List (List ℕ)) (texts : Texts) (start : ℕ) → SoFar names texts start [] [] []
none_read names texts start = record {
  read = no_more;
  known = All-nil (IsGivenKnown (length names) (start + 0));
  named = All-nil (IsNamed names);
  words_are = refl;
}

module _ (names : List (List ℕ)) (texts : Texts) where
  read_push : (turn : ℕ) (words : List (List ℕ)) (items : List Given) (word : List ℕ) (more : List Given) (k : ℕ) → AreDataRead names texts turn words items → k ≡ turn + length words → IsDataReading names texts k word more → AreDataRead names texts turn (words ++ word ∷ []) (items ++ more)
  read_push turn _ _ word more k no_more at r = let e : k ≡ turn = omega arith in subst (AreDataRead names texts turn (word ∷ [])) (append-nil more) (one_more (subst (λ n. IsDataReading names texts n word more) e r) no_more)
  read_push turn _ _ word more k (one_more {name = name} {rest = rest} {items = items} {more = others} q all) at r =
      subst (AreDataRead names texts turn (name ∷ (rest ++ word ∷ []))) (sym (append_assoc items others more))
      (one_more q (read_push (suc turn) rest others word more k all (omega arith) r))

  -- the file whose turn it is fails
  fails_push : (turn : ℕ) (words : List (List ℕ)) (items : List Given) (word : List ℕ) (behind : List (List ℕ)) (f : Fault) (k : ℕ) → AreDataRead names texts turn words items → k ≡ turn + length words → FailsAsData names texts k word f → FailsFirst names texts turn (words ++ word ∷ behind) f word
  fails_push turn _ _ word behind f k no_more at h = let e : k ≡ turn = omega arith in here (subst (λ n. FailsAsData names texts n word f) e h)
  fails_push turn _ _ word behind f k (one_more {rest = rest} {more = others} q all) at h = later q (fails_push (suc turn) rest others word behind f k all (omega arith) h)

-- where the table has grown from old to new
module _ (old new : List (List ℕ)) (grows : Grows old new) where
  texts_later : (files : List ℕ) → All (IsNamed old) files → map (text_of new) files ≡ map (text_of old) files
  texts_later [] all = refl
  texts_later (n ∷ ns) all =
      ap (λ t. t ∷ map (text_of new) ns) (grows n (All-head (IsNamed old) n ns all)).1
      ∙ ap (λ ts. text_of old n ∷ ts) (texts_later ns (All-tail (IsNamed old) n ns all))

  item_later : (files : ℕ) (g : Given) → IsGivenKnown (length old) files g → IsGivenKnown (length new) files g
  item_later files g h = record { within = stays old new g grows h.within; name = h.name; value = h.value }

  pub so_far_later : (texts : Texts) (start : ℕ) (words : List (List ℕ)) (files : List ℕ) (items : List Given) → SoFar old texts start words files items → SoFar new texts start words files items
  so_far_later texts start words files items s = record {
    read = data_later old new grows texts start words items s.read;
    known = All-weaker (IsGivenKnown (length old) (start + length files)) (IsGivenKnown (length new) (start + length files)) (item_later (start + length files)) items s.known;
    named = All-weaker (IsNamed old) (IsNamed new) (λ n below. (grows n below).0) files s.named;
    words_are = texts_later files s.named ∙ s.words_are;
  }

more_files : (names files more : ℕ) (g : Given) → files ≤ more → IsGivenKnown names files g → IsGivenKnown names more g
more_files names files more g l h = let a : g.span.file < files = h.name in let b : g.at.file < files = h.value in record { within = h.within; name = omega arith; value = omega arith }

new_item : (names number files : ℕ) (g : Given) → number < files → IsGivenWithin names g → IsGivenIn number g → IsGivenKnown names files g
new_item names number files g l h at = record { within = h; name = subst (λ k. k < files) (sym at.name) l; value = subst (λ k. k < files) (sym at.value) l }

new_items : (names number files : ℕ) (gs : List Given) → number < files → All (IsGivenWithin names) gs → All (IsGivenIn number) gs → All (IsGivenKnown names files) gs
new_items names number files [] l h at = All-nil (IsGivenKnown names files)
new_items names number files (g ∷ gs) l h at =
    All-cons (IsGivenKnown names files) g gs (new_item names number files g l (All-head (IsGivenWithin names) g gs h) (All-head (IsGivenIn number) g gs at))
    (new_items names number files gs l (All-tail (IsGivenWithin names) g gs h) (All-tail (IsGivenIn number) g gs at))

module _ (names : List (List ℕ)) (texts : Texts) (start : ℕ) (words : List (List ℕ)) (files : List ℕ) (items : List Given) (s : SoFar names texts start words files items) where
  count_is : length files ≡ length words
  count_is = sym (length-map files (text_of names)) ∙ ap length s.words_are

  -- one data file more is read
  pub so_far_on : (turn name : ℕ) (word : List ℕ) (more : List Given) → turn ≡ start + length files → name < length names → text_of names name ≡ word → IsDataReading names texts turn word more → All (IsGivenWithin (length names)) more → All (IsGivenIn turn) more
      → SoFar names texts start (words ++ word ∷ []) (files ++ name ∷ []) (items ++ more)
  so_far_on turn name word more at below is reading within placed =
      let longer : length (files ++ name ∷ []) ≡ length files + 1 = length-append files (name ∷ []) in
      let all = start + length (files ++ name ∷ []) in
      let k = count_is in
      record {
        read = read_push names texts start words items word more turn s.read (omega arith) reading;
        known = All-append (IsGivenKnown (length names) all) items more (All-weaker (IsGivenKnown (length names) (start + length files)) (IsGivenKnown (length names) all) (λ g. more_files (length names) (start + length files) all g (omega arith)) items s.known)
            (new_items (length names) turn all more (omega arith) within placed);
        named = All-push (IsNamed names) files name s.named below;
        words_are = map_push (text_of names) files name ∙ ap (λ ts. ts ++ text_of names name ∷ []) s.words_are ∙ ap (λ t. words ++ t ∷ []) is;
      }

  -- the data file whose turn it is fails
  pub fails_now : (turn : ℕ) (word : List ℕ) (behind : List (List ℕ)) (f : Fault) → turn ≡ start + length files → FailsAsData names texts turn word f → FailsFirst names texts start (words ++ word ∷ behind) f word
  fails_now turn word behind f at h = let k = count_is in fails_push names texts start words items word behind f turn s.read (omega arith) h

-- Words

-- the words up to the next one
pub next_word : (words : List (Bor (List ℕ))) (i : ℕ) (d : Bor (List ℕ)) → i < length words → words_of (take (i + 1) words) ≡ words_of (take i words) ++ (get_or words i d).now ∷ []
next_word words i d below = ap words_of (take_more words i d below) ∙ map_push (λ (w : Bor (List ℕ)). w.now) (take i words) (get_or words i d)

-- the next word, between those before it and those after it
pub split_words : (words : List (Bor (List ℕ))) (i : ℕ) (d : Bor (List ℕ)) → i < length words → words_of words ≡ words_of (take i words) ++ (get_or words i d).now ∷ words_of (drop (i + 1) words)
split_words words i d below =
    ap words_of (sym (take-append-drop (i + 1) words)) ∙ map-append (λ (w : Bor (List ℕ)). w.now) (take (i + 1) words) (drop (i + 1) words)
    ∙ ap (λ ws. ws ++ words_of (drop (i + 1) words)) (next_word words i d below)
    ∙ append_assoc (words_of (take i words)) ((get_or words i d).now ∷ []) (words_of (drop (i + 1) words))

-- what is told of a refusal in two clauses
pub refused_both : (X Y : Type 0) (P Q R : Fault → ℕ → Type 0) (end : GatherEnd) → ((f : Fault) (n : ℕ) → P f n → Q f n → R f n) → IfRefused {X = X} (Err end) P → IfRefused {X = X} (Err end) Q → IfRefused {X = Y} (Err end) R
refused_both X Y P Q R (Refused f n) step h k = step f n h k
refused_both X Y P Q R ReadFault step h k = tt
refused_both X Y P Q R Memory step h k = tt

-- these data files are read, as they lie in memory
pub so_far_as : (names : List (List ℕ)) (texts : Texts) (start : ℕ) (words : List (List ℕ)) (files others : List ℕ) (items more : List Given) → others ≡ files → more ≡ items → SoFar names texts start words files items → SoFar names texts start words others more
so_far_as names texts start words files others items more e h s = subst (λ ns. SoFar names texts start words ns more) (sym e) (subst (SoFar names texts start words files) (sym h) s)

-- a word whose name is known in the table from which the later one grew
module _ (mid new : List (List ℕ)) (grows : Grows mid new) (texts now : Texts) (same : now ≡ texts) (start : ℕ) (words : List (Bor (List ℕ))) (i : ℕ) (d : Bor (List ℕ)) (below : i < length words) where
  module _ (files : List ℕ) (items : List Given) (s : SoFar new texts start (words_of (take i words)) files items) (turn name : ℕ) (at : turn ≡ start + length files) (within : name < length mid) (is : text_of mid name ≡ (get_or words i d).now) where
    word_later : text_of new name ≡ (get_or words i d).now
    word_later = (grows name within).1 ∙ is

    pub word_read : (more : List Given) → IsDataReading new now turn (text_of mid name) more → All (IsGivenWithin (length new)) more → All (IsGivenIn turn) more → SoFar new texts start (words_of (take (i + 1) words)) (files ++ name ∷ []) (items ++ more)
    word_read more r known placed =
        subst (λ ws. SoFar new texts start ws (files ++ name ∷ []) (items ++ more)) (sym (next_word words i d below))
        (so_far_on new texts start (words_of (take i words)) files items s turn name (get_or words i d).now more at (grows name within).0 word_later
        (subst (λ ts. IsDataReading new ts turn (get_or words i d).now more) same (subst (λ w. IsDataReading new now turn w more) is r)) known placed)

    pub word_fails : (f : Fault) (n : ℕ) → FailsAsData new now turn (text_of mid name) f → n ≡ name → FailsFirst new texts start (words_of words) f (text_of new n)
    word_fails f n h e =
        subst (λ owner. FailsFirst new texts start (words_of words) f owner) (sym (ap (text_of new) e ∙ word_later))
        (subst (λ ws. FailsFirst new texts start ws f (get_or words i d).now) (sym (split_words words i d below))
        (fails_now new texts start (words_of (take i words)) files items s turn (get_or words i d).now (words_of (drop (i + 1) words)) f at
        (subst (λ ts. FailsAsData new ts turn (get_or words i d).now f) same (subst (λ w. FailsAsData new now turn w f) is h))))
