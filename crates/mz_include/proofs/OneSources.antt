-- Where the texts are told, a model has one list of files or one first failure, never both.
use Rattle.std.proofs.Common.{◌≡◌, ◌<◌, ◌≤◌, ◌+◌, ℕ, List, [], ◌∷◌, ◌++◌, length, refl, sym, ap, subst, ◌∙◌, inl, inr, arith, Option}
use Rattle.std.specs.Prelude.{Some, None}
use Rattle.std.proofs.lemmas.Bool.{cases_order}
use Rattle.std.proofs.lemmas.List.{length-append}
use Rattle.mz_base.specs.declared.fault.Fault.{Fault}
use Rattle.mz_base.specs.declared.fault.Span.{Span}
use Rattle.mz_base.specs.Names.{AreDistinct}
use Rattle.mz_tree.specs.Items.{ItemTree}
use Rattle.mz_include.specs.Naming.{Mention, File, next}
use Rattle.mz_include.specs.Parsing.{IsParsed, IsUnparsed}
use Rattle.mz_base.specs.declared.limit.TheConstants.{FILE_LIMIT}
use Rattle.mz_include.specs.Sources.{IsLoaded, AreRead, none_yet, one_more, IsSources, Fails, missing, too_long, unparsed, IsFirstFailure}
use Rattle.mz_include.proofs.OneReading.{parsed_or_not, one_parsing, one_unparsed}

longer : {A : Type 0} (xs : List A) (x : A) → length (xs ++ x ∷ []) ≡ length xs + 1
longer xs x = length-append xs (x ∷ [])

module _ (names : List (List ℕ)) (distinct : AreDistinct names) (texts : List ℕ → Option (List ℕ)) (first : List ℕ) where
  same_text : (name text other : List ℕ) → texts name ≡ Some text → texts name ≡ Some other → text ≡ other
  same_text name text other h g = let e : Some text ≡ Some other = sym h ∙ g in cc

  -- a file whose turn it is is read, or fails, in one way
  read_or_fails : (turn : ℕ) (m : Mention) (file : File) (f : Fault) (owner : List ℕ) → IsLoaded names (Some texts) turn m file → Fails names (Some texts) turn m f owner → ⊥
  read_or_fails turn m file f owner r (missing h) = let e : Some r.text ≡ None = sym r.fetched.told ∙ h in absurd (cc)
  read_or_fails turn m file f owner r (too_long h) = let e = same_text m.name r.text h.0 r.fetched.told h.1 in let within : length r.text ≤ FILE_LIMIT = r.fetched.within in let over : FILE_LIMIT < length r.text = subst (λ t. FILE_LIMIT < length t) (sym e) h.2 in absurd (omega arith)
  read_or_fails turn m file f owner r (unparsed {f = g} text fetched h) =
      parsed_or_not names distinct turn text file g (subst (λ t. IsParsed names turn t file) (same_text m.name r.text text r.fetched.told fetched.told) r.parsed) h

  one_loaded : (turn : ℕ) (m : Mention) (file other : File) → IsLoaded names (Some texts) turn m file → IsLoaded names (Some texts) turn m other → file ≡ other
  one_loaded turn m file other r q =
      let e = one_parsing names distinct turn r.text file other r.parsed (subst (λ t. IsParsed names turn t other) (same_text m.name q.text r.text q.fetched.told r.fetched.told) q.parsed) in
      ap (λ (n : List ℕ). let v : File = record { name = n; items = file.items; end = file.end } in v) (r.name ∙ sym q.name)
      ∙ ap (λ (is : List ItemTree). let v : File = record { name = other.name; items = is; end = file.end } in v) e.0
      ∙ ap (λ (s : Span). let v : File = record { name = other.name; items = other.items; end = s } in v) e.1

  one_failure : (turn : ℕ) (m : Mention) (f g : Fault) (owner other : List ℕ) → Fails names (Some texts) turn m f owner → Fails names (Some texts) turn m g other → (f ≡ g) × (owner ≡ other)
  one_failure turn m f g owner other (missing h) (missing k) = (refl, refl)
  one_failure turn m f g owner other (missing h) (too_long k) = let e : Some k.0 ≡ None = sym k.1 ∙ h in absurd (cc)
  one_failure turn m f g owner other (missing h) (unparsed text fetched k) = let e : Some text ≡ None = sym fetched.told ∙ h in absurd (cc)
  one_failure turn m f g owner other (too_long h) (missing k) = let e : Some h.0 ≡ None = sym h.1 ∙ k in absurd (cc)
  one_failure turn m f g owner other (too_long h) (too_long k) = (refl, refl)
  one_failure turn m f g owner other (too_long h) (unparsed text fetched k) =
      let e = same_text m.name text h.0 fetched.told h.1 in let within : length text ≤ FILE_LIMIT = fetched.within in let over : FILE_LIMIT < length text = subst (λ t. FILE_LIMIT < length t) (sym e) h.2 in absurd (omega arith)
  one_failure turn m f g owner other (unparsed text fetched h) (missing k) = let e : Some text ≡ None = sym fetched.told ∙ k in absurd (cc)
  one_failure turn m f g owner other (unparsed text fetched h) (too_long k) =
      let e = same_text m.name text k.0 fetched.told k.1 in let within : length text ≤ FILE_LIMIT = fetched.within in let over : FILE_LIMIT < length text = subst (λ t. FILE_LIMIT < length t) (sym e) k.2 in absurd (omega arith)
  one_failure turn m f g owner other (unparsed {f = f'} text fetched h) (unparsed {f = g'} text' fetched' k) =
      (one_unparsed names distinct turn text f' g' h (subst (λ t. IsUnparsed names turn t g') (same_text m.name text' text fetched'.told fetched.told) k), refl)

  -- the mention whose turn it is, where as many files are read
  same_turn : (files others : List File) (m n : Mention) → files ≡ others → next names first files ≡ Some m → next names first others ≡ Some n → m ≡ n
  same_turn files others m n e h g = let k : Some m ≡ Some n = sym h ∙ ap (next names first) e ∙ g in cc

  one_file_more : (files others : List File) (file other : File) → files ≡ others → file ≡ other → files ++ file ∷ [] ≡ others ++ other ∷ []
  one_file_more files others file other e h = ap (λ fs. fs ++ file ∷ []) e ∙ ap (λ g. others ++ g ∷ []) h

  -- the files that are read are the same ones, as far as they go
  one_read : (files others : List File) → AreRead names (Some texts) first files → AreRead names (Some texts) first others → length files ≡ length others → files ≡ others
  one_read _ _ none_yet none_yet same = refl
  one_read _ _ none_yet (one_more {files = files} {file = file} r n h) same = let e = longer files file in absurd (omega arith)
  one_read _ _ (one_more {files = files} {file = file} r n h) none_yet same = let e = longer files file in absurd (omega arith)
  one_read _ _ (one_more {files = files} {m = m} {file = file} r n h) (one_more {files = others} {m = m'} {file = other} r' n' h') same =
      let a = longer files file in let b = longer others other in
      let before : files ≡ others = one_read files others r r' (omega arith) in
      let turn : m ≡ m' = same_turn files others m m' before n n' in
      one_file_more files others file other before
      (one_loaded (length files) m file other h (subst (λ k. IsLoaded names (Some texts) k m other) (ap length (sym before)) (subst (λ v. IsLoaded names (Some texts) (length others) v other) (sym turn) h')))

  -- the files that were read when the turn came to a file that is read
  record Before (turn : ℕ) : Type 0 where
    files : List File
    mention : Mention
    file : File
    read : AreRead names (Some texts) first files
    count : length files ≡ turn
    next_is : next names first files ≡ Some mention
    loaded : IsLoaded names (Some texts) turn mention file

  before : (turn : ℕ) (files : List File) → AreRead names (Some texts) first files → turn < length files → Before turn
  before turn _ none_yet below = absurd (omega arith)
  before turn _ (one_more {files = files} {m = m} {file = file} r n h) below = elim (cases_order turn (length files)) [
    | inl same ↦ record { files = files; mention = m; file = file; read = r; count = sym same; next_is = n; loaded = subst (λ k. IsLoaded names (Some texts) k m file) (sym same) h }
    | inr other ↦ elim other [
      | inl less ↦ before turn files r less
      | inr more ↦ let e = longer files file in absurd (omega arith)
    ]
  ]

  -- where all files are read, no more are
  at_the_end : (files others : List File) → IsSources names (Some texts) first files → AreRead names (Some texts) first others → length files < length others → ⊥
  at_the_end files others s r less =
      let b = before (length files) others r less in
      let e : Some b.mention ≡ None = sym b.next_is ∙ ap (next names first) (one_read b.files files b.read s.read b.count) ∙ s.all in
      absurd (cc)

  -- two sources are one
  pub one_sources : (files others : List File) → IsSources names (Some texts) first files → IsSources names (Some texts) first others → files ≡ others
  one_sources files others s t = elim (cases_order (length files) (length others)) [
    | inl same ↦ one_read files others s.read t.read same
    | inr other ↦ elim other [
      | inl less ↦ absurd (at_the_end files others s t.read less)
      | inr more ↦ absurd (at_the_end others files t s.read more)
    ]
  ]

  -- where a file fails, it isn't read
  not_read : (files : List File) (f : Fault) (owner : List ℕ) → AreRead names (Some texts) first files → (h : IsFirstFailure names (Some texts) first f owner) → length h.files < length files → ⊥
  not_read files f owner r h less =
      let b = before (length h.files) files r less in
      let e : b.mention ≡ h.mention = same_turn b.files h.files b.mention h.mention (one_read b.files h.files b.read h.read b.count) b.next_is h.turn in
      read_or_fails (length h.files) h.mention b.file f owner (subst (λ m. IsLoaded names (Some texts) (length h.files) m b.file) e b.loaded) h.fails

  -- a model's files and a first failure exclude each other
  pub sources_or_failure : (files : List File) (f : Fault) (owner : List ℕ) → IsSources names (Some texts) first files → IsFirstFailure names (Some texts) first f owner → ⊥
  sources_or_failure files f owner s h = elim (cases_order (length files) (length h.files)) [
    | inl same ↦ let e : Some h.mention ≡ None = sym h.turn ∙ ap (next names first) (sym (one_read files h.files s.read h.read same)) ∙ s.all in absurd (cc)
    | inr other ↦ elim other [
      | inl less ↦ at_the_end files h.files s h.read less
      | inr more ↦ not_read files f owner s.read h more
    ]
  ]

  -- first failures are one
  pub one_first_failure : (f g : Fault) (owner other : List ℕ) → IsFirstFailure names (Some texts) first f owner → IsFirstFailure names (Some texts) first g other → (f ≡ g) × (owner ≡ other)
  one_first_failure f g owner other h k = elim (cases_order (length h.files) (length k.files)) [
    | inl same ↦
        let files : h.files ≡ k.files = one_read h.files k.files h.read k.read same in
        let turn : h.mention ≡ k.mention = same_turn h.files k.files h.mention k.mention files h.turn k.turn in
        one_failure (length k.files) k.mention f g owner other (subst (λ n. Fails names (Some texts) n k.mention f owner) same (subst (λ m. Fails names (Some texts) (length h.files) m f owner) turn h.fails)) k.fails
    | inr apart ↦ elim apart [
      | inl less ↦ absurd (not_read k.files f owner k.read h less)
      | inr more ↦ absurd (not_read h.files g other h.read k more)
    ]
  ]
