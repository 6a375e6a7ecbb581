-- Where the texts are told, data files have one list of items or one first failure, never both; and so has a model with them.
use Rattle.std.proofs.Common.{◌≡◌, ◌<◌, ◌≤◌, ℕ, suc, List, ◌++◌, length, refl, sym, ap, subst, ◌∙◌, arith}
use Rattle.std.specs.Prelude.{Option, Some, None}
use Rattle.mz_base.specs.declared.fault.Fault.{Fault}
use Rattle.mz_base.specs.declared.limit.TheConstants.{FILE_LIMIT}
use Rattle.mz_base.specs.Names.{AreDistinct}
use Rattle.mz_tree.specs.Data.{Given}
use Rattle.mz_include.specs.Naming.{File}
use Rattle.mz_include.proofs.OneSources as Model
use Rattle.mz_include.specs.DataTexts.{IsDataText, IsUnfitText}
use Rattle.mz_include.specs.DataFiles.{IsDataReading, AreDataRead, no_more, one_more, FailsAsData, missing, too_long, unfit, FailsFirst, here, later}
use Rattle.mz_include.specs.WithData.{IsSourcesWithData, FailsWithData, in_the_model, in_the_data}
use Rattle.mz_include.proofs.OneText.{read_or_not, one_items, one_unfit}

module _ (names : List (List ℕ)) (distinct : AreDistinct names) (texts : List ℕ → Option (List ℕ)) where
  same_text : (name text other : List ℕ) → texts name ≡ Some text → texts name ≡ Some other → text ≡ other
  same_text name text other h g = let e : Some text ≡ Some other = sym h ∙ g in cc

  not_both : (text : List ℕ) → length text ≤ FILE_LIMIT → FILE_LIMIT < length text → ⊥
  not_both text within over = absurd (omega arith)

  -- One file

  read_or_fails : (turn : ℕ) (name : List ℕ) (items : List Given) (f : Fault) → IsDataReading names (Some texts) turn name items → FailsAsData names (Some texts) turn name f → ⊥
  read_or_fails turn name items _ r (missing h) = let e : Some r.text ≡ None = sym r.fetched.told ∙ h in absurd (cc)
  read_or_fails turn name items _ r (too_long h) = not_both r.text r.fetched.within (subst (λ t. FILE_LIMIT < length t) (same_text name h.0 r.text h.1 r.fetched.told) h.2)
  read_or_fails turn name items f r (unfit text fetched h) =
      read_or_not names distinct turn text items f (subst (λ t. IsDataText names turn t items) (same_text name r.text text r.fetched.told fetched.told) r.parsed) h

  one_reading : (turn : ℕ) (name : List ℕ) (items others : List Given) → IsDataReading names (Some texts) turn name items → IsDataReading names (Some texts) turn name others → items ≡ others
  one_reading turn name items others r q =
      one_items names distinct turn r.text items others r.parsed (subst (λ t. IsDataText names turn t others) (same_text name q.text r.text q.fetched.told r.fetched.told) q.parsed)

  one_failure : (turn : ℕ) (name : List ℕ) (f g : Fault) → FailsAsData names (Some texts) turn name f → FailsAsData names (Some texts) turn name g → f ≡ g
  one_failure turn name _ _ (missing h) (missing k) = refl
  one_failure turn name _ _ (missing h) (too_long k) = let e : Some k.0 ≡ None = sym k.1 ∙ h in absurd (cc)
  one_failure turn name _ g (missing h) (unfit text fetched k) = let e : Some text ≡ None = sym fetched.told ∙ h in absurd (cc)
  one_failure turn name _ _ (too_long h) (missing k) = let e : Some h.0 ≡ None = sym h.1 ∙ k in absurd (cc)
  one_failure turn name _ _ (too_long h) (too_long k) = refl
  one_failure turn name _ g (too_long h) (unfit text fetched k) = absurd (not_both text fetched.within (subst (λ t. FILE_LIMIT < length t) (same_text name h.0 text h.1 fetched.told) h.2))
  one_failure turn name f _ (unfit text fetched h) (missing k) = let e : Some text ≡ None = sym fetched.told ∙ k in absurd (cc)
  one_failure turn name f _ (unfit text fetched h) (too_long k) = absurd (not_both text fetched.within (subst (λ t. FILE_LIMIT < length t) (same_text name k.0 text k.1 fetched.told) k.2))
  one_failure turn name f g (unfit text fetched h) (unfit other fetched' k) =
      one_unfit names distinct turn text f g h (subst (λ t. IsUnfitText names turn t g) (same_text name other text fetched'.told fetched.told) k)

  -- All data files

  both_more : (items others more rest : List Given) → items ≡ others → more ≡ rest → items ++ more ≡ others ++ rest
  both_more items others more rest e h = ap (λ is. is ++ more) e ∙ ap (λ is. others ++ is) h

  one_data : (turn : ℕ) (given : List (List ℕ)) (items others : List Given) → AreDataRead names (Some texts) turn given items → AreDataRead names (Some texts) turn given others → items ≡ others
  one_data turn _ _ _ no_more no_more = refl
  one_data turn _ _ _ (one_more {name = name} {rest = rest} {items = items} {more = more} r all) (one_more {items = others} {more = further} q some) =
      both_more items others more further (one_reading turn name items others r q) (one_data (suc turn) rest more further all some)

  read_or_first : (turn : ℕ) (given : List (List ℕ)) (items : List Given) (f : Fault) (owner : List ℕ) → AreDataRead names (Some texts) turn given items → FailsFirst names (Some texts) turn given f owner → ⊥
  read_or_first turn _ _ f owner no_more h = elim h [ ]
  read_or_first turn _ _ f _ (one_more {name = name} {items = items} r all) (here h) = read_or_fails turn name items f r h
  read_or_first turn _ _ f owner (one_more {rest = rest} {more = more} r all) (later q h) = read_or_first (suc turn) rest more f owner all h

  one_first : (turn : ℕ) (given : List (List ℕ)) (f g : Fault) (owner other : List ℕ) → FailsFirst names (Some texts) turn given f owner → FailsFirst names (Some texts) turn given g other → (f ≡ g) × (owner ≡ other)
  one_first turn _ f g _ _ (here {name = name} h) (here k) = (one_failure turn name f g h k, refl)
  one_first turn _ f g _ other (here {name = name} h) (later {items = items} r k) = absurd (read_or_fails turn name items f r h)
  one_first turn _ f g owner _ (later {name = name} {items = items} r h) (here k) = absurd (read_or_fails turn name items g r k)
  one_first turn _ f g owner other (later {rest = rest} r h) (later q k) = one_first (suc turn) rest f g owner other h k

  -- The model with its data

  module _ (first : List ℕ) (given : List (List ℕ)) where
    pub sources_or_failure : (files : List File) (items : List Given) (f : Fault) (owner : List ℕ) → IsSourcesWithData names (Some texts) first given files items → FailsWithData names (Some texts) first given f owner → ⊥
    sources_or_failure files items f owner s (in_the_model h) = Model.sources_or_failure names distinct texts first files f owner s.model h
    sources_or_failure files items f owner s (in_the_data others model h) =
        read_or_first (length others) given items f owner
        (subst (λ (fs : List File). AreDataRead names (Some texts) (length fs) given items) (Model.one_sources names distinct texts first files others s.model model) s.data_files) h

    pub one_sources : (files others : List File) (items more : List Given) → IsSourcesWithData names (Some texts) first given files items → IsSourcesWithData names (Some texts) first given others more → (files ≡ others) × (items ≡ more)
    one_sources files others items more s t =
        let same : files ≡ others = Model.one_sources names distinct texts first files others s.model t.model in
        (same, one_data (length others) given items more (subst (λ (fs : List File). AreDataRead names (Some texts) (length fs) given items) same s.data_files) t.data_files)

    pub one_first_failure : (f g : Fault) (owner other : List ℕ) → FailsWithData names (Some texts) first given f owner → FailsWithData names (Some texts) first given g other → (f ≡ g) × (owner ≡ other)
    one_first_failure f g owner other (in_the_model h) (in_the_model k) = Model.one_first_failure names distinct texts first f g owner other h k
    one_first_failure f g owner other (in_the_model h) (in_the_data files model k) = absurd (Model.sources_or_failure names distinct texts first files f owner model h)
    one_first_failure f g owner other (in_the_data files model h) (in_the_model k) = absurd (Model.sources_or_failure names distinct texts first files g other model k)
    one_first_failure f g owner other (in_the_data files model h) (in_the_data others model' k) =
        one_first (length others) given f g owner other
        (subst (λ (fs : List File). FailsFirst names (Some texts) (length fs) given f owner) (Model.one_sources names distinct texts first files others model model') h) k
