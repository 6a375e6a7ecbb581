-- Cells one after the other: those of a model, and choices.
use Rattle.std.proofs.Common.{◌≡◌, ◌∙◌, ℕ, zero, suc, ◌+◌, ℤ, pos, Bool, true, false, List, [], ◌∷◌, ◌++◌, length, Option, Some, None, slice_get, append_assoc, append-nil, refl, sym, ap, subst, arith}
use Rattle.std.proofs.lemmas.Bool.{and_parts}
use Rattle.mz_value.specs.Ranges.{Range}
use Rattle.mz_value.specs.Contents.{Content}
use Rattle.mz_value.specs.Contents as values
use Rattle.mz_arena.specs.Values.{Values}
use Rattle.mz_meaning.specs.Domains.{Domain, lies_in, all_lie_in}
use Rattle.mz_meaning.specs.Solutions.{AreLegalFrom}
use Rattle.mz_instance.specs.Parts.{Part, parts_of, next, AllFit}
use Rattle.mz_model_meaning.specs.Decoded.{part_of, domain_parts, all_parts, after_domains, AreShaped, cell_content, cell_contents, Chooses}
use Rattle.mz_headline.proofs.Cells.{code, AreCodes, HasDefault, IsCoded, cell_lies, cell_coded, coded, cell_content_same, cell_same}

-- ---- one cell, and the parts after it

pub fit_first : (o : Bool) (p : Part) (ps : List Part) (k : ℕ) (x : Values) → AllFit (parts_of o p ++ ps) k x → AllFit (parts_of o p) k x
fit_first true p ps k x fits = (fits.0, (fits.1.0, tt))
fit_first false p ps k x fits = (fits.0, tt)

pub fit_after : (o : Bool) (p : Part) (ps : List Part) (k : ℕ) (x : Values) → AllFit (parts_of o p ++ ps) k x → AllFit ps (next o k) x
fit_after true p ps k x fits = fits.1.1
fit_after false p ps k x fits = fits.1

pub fit_both : (o : Bool) (p : Part) (ps : List Part) (k : ℕ) (x : Values) → AllFit (parts_of o p) k x → AllFit ps (next o k) x → AllFit (parts_of o p ++ ps) k x
fit_both true p ps k x first rest = (first.0, (first.1.0, rest))
fit_both false p ps k x first rest = (first.0, rest)

codes_first : (zs more : List (ℤ × List Range)) (k : ℕ) (x : Values) → AreCodes x k (zs ++ more) → AreCodes x k zs
codes_first [] more k x codes = tt
codes_first (z ∷ zs) more k x codes = (codes.0, codes.1, codes_first zs more (suc k) x codes.2)

codes_after : (o : Bool) (u : List Range) (c : Content) (more : List (ℤ × List Range)) (k : ℕ) (x : Values) → AreCodes x k (code o u c ++ more) → AreCodes x (next o k) more
codes_after false u c more k x codes = codes.2
codes_after true u values.absent more k x codes = codes.2.2
codes_after true u (values.bool b) more k x codes = codes.2.2
codes_after true u (values.int n) more k x codes = codes.2.2
codes_after true u (values.case e n) more k x codes = codes.2.2
codes_after true u (values.set e s) more k x codes = codes.2.2
codes_after true u (values.text t) more k x codes = codes.2.2
codes_after true u (values.array ix xs) more k x codes = codes.2.2

pub coded_cell_and : (o : Bool) (p : Part) (ps : List Part) (k : ℕ) (x : Values) → coded (parts_of o p ++ ps) k x ≡ coded (parts_of o p) k x ++ coded ps (next o k) x
coded_cell_and true p ps k x = refl
coded_cell_and false p ps k x = refl

-- ---- lists that are equal in two pieces

pub halves : {A : Type 0} (xs ys us vs : List A) → length xs ≡ length ys → xs ++ us ≡ ys ++ vs → (xs ≡ ys) × (us ≡ vs)
halves [] [] us vs l e = (refl, e)
halves [] (y ∷ ys) us vs l e = absurd (omega (arith, l))
halves (x ∷ xs) [] us vs l e = absurd (omega (arith, l))
halves (x ∷ xs) (y ∷ ys) us vs l e =
    let tails : xs ++ us ≡ ys ++ vs = cc in
    let rest = halves xs ys us vs (omega (arith, l)) tails in
    let first = rest.0 in
    (cc, rest.1)

pub cell_count : (o : Bool) (p : Part) (k : ℕ) (x y : Values) → length (coded (parts_of o p) k x) ≡ length (coded (parts_of o p) k y)
cell_count true p k x y = refl
cell_count false p k x y = refl

-- ---- a list of cells

pub contents_lie : (ds : List Domain) (k : ℕ) (x : Values) → AreShaped ds → AllFit (all_parts ds) k x → all_lie_in ds (cell_contents ds k x) ≡ true
unfolding all_lie_in
contents_lie [] k x shaped fits = refl
contents_lie (d ∷ ds) k x shaped fits =
    rw (cell_lies d k x shaped.0 (fit_first d.opt (part_of d) (all_parts ds) k x fits), contents_lie ds (next d.opt k) x shaped.1 (fit_after d.opt (part_of d) (all_parts ds) k x fits)) refl

abbrev pub all_codes : List Domain → List Content → List (ℤ × List Range)
all_codes [] cs = []
all_codes (d ∷ ds) [] = []
all_codes (d ∷ ds) (c ∷ cs) = code d.opt d.set c ++ all_codes ds cs

abbrev pub HaveDefaults : List Domain → ℕ → Values → Type 0
HaveDefaults [] k x = Unit {0}
HaveDefaults (d ∷ ds) k x = HasDefault d.opt d.set k x × HaveDefaults ds (next d.opt k) x

pub record AreCoded (ds : List Domain) (cs : List Content) (k : ℕ) (x : Values) : Type 0 where
  pub fits : AllFit (all_parts ds) k x
  pub are : cell_contents ds k x ≡ cs
  pub defaults : HaveDefaults ds k x

pub cells_coded : (ds : List Domain) (cs : List Content) (k : ℕ) (x : Values) → AreShaped ds → all_lie_in ds cs ≡ true → AreCodes x k (all_codes ds cs) → AreCoded ds cs k x
unfolding all_lie_in
cells_coded [] [] k x shaped lie codes = record { fits = tt; are = refl; defaults = tt }
cells_coded [] (c ∷ cs) k x shaped lie codes = absurd (cc)
cells_coded (d ∷ ds) [] k x shaped lie codes = absurd (cc)
cells_coded (d ∷ ds) (c ∷ cs) k x shaped lie codes =
    let both = and_parts (lies_in d c) (all_lie_in ds cs) lie in
    let first = cell_coded d c k x shaped.0 both.0 (codes_first (code d.opt d.set c) (all_codes ds cs) k x codes) in
    let rest = cells_coded ds cs (next d.opt k) x shaped.1 both.1 (codes_after d.opt d.set c (all_codes ds cs) k x codes) in
    record {
      fits = fit_both d.opt (part_of d) (all_parts ds) k x first.fits rest.fits;
      are = ap (λ c. c ∷ cell_contents ds (next d.opt k) x) first.is ∙ ap (λ cs. c ∷ cs) rest.are;
      defaults = (first.default, rest.defaults);
    }

pub cells_same : (ds : List Domain) (k : ℕ) (x y : Values) → AreShaped ds → AllFit (all_parts ds) k x → AllFit (all_parts ds) k y → HaveDefaults ds k x → HaveDefaults ds k y → cell_contents ds k x ≡ cell_contents ds k y → coded (all_parts ds) k x ≡ coded (all_parts ds) k y
cells_same [] k x y shaped h i a b same = refl
cells_same (d ∷ ds) k x y shaped h i a b same =
    let p = part_of d in
    let ps = all_parts ds in
    let first : cell_content d k x ≡ cell_content d k y = cc in
    let more : cell_contents ds (next d.opt k) x ≡ cell_contents ds (next d.opt k) y = cc in
    coded_cell_and d.opt p ps k x
    ∙ ap (λ vs. vs ++ coded ps (next d.opt k) x) (cell_same d k x y shaped.0 (fit_first d.opt p ps k x h) (fit_first d.opt p ps k y i) a.0 b.0 first)
    ∙ ap (λ vs. coded (domain_parts d) k y ++ vs) (cells_same ds (next d.opt k) x y shaped.1 (fit_after d.opt p ps k x h) (fit_after d.opt p ps k y i) a.1 b.1 more)
    ∙ sym (coded_cell_and d.opt p ps k y)

-- what cells stand for is told by the values of their parts
pub contents_same : (ds : List Domain) (k : ℕ) (x y : Values) → coded (all_parts ds) k x ≡ coded (all_parts ds) k y → cell_contents ds k x ≡ cell_contents ds k y
contents_same [] k x y same = refl
contents_same (d ∷ ds) k x y same =
    let p = part_of d in
    let ps = all_parts ds in
    let both = halves (coded (domain_parts d) k x) (coded (domain_parts d) k y) (coded ps (next d.opt k) x) (coded ps (next d.opt k) y) (cell_count d.opt p k x y) (sym (coded_cell_and d.opt p ps k x) ∙ same ∙ coded_cell_and d.opt p ps k y) in
    let first : cell_content d k x ≡ cell_content d k y = cell_content_same d.opt d.base d.set k k x y both.0 in
    let rest = contents_same ds (next d.opt k) x y both.1 in
    ap (λ c. c ∷ cell_contents ds (next d.opt k) x) first ∙ ap (λ cs. cell_content d k y ∷ cs) rest

-- ---- two lists of cells

pub shaped_first : (ds es : List Domain) → AreShaped (ds ++ es) → AreShaped ds
shaped_first [] es shaped = tt
shaped_first (d ∷ ds) es shaped = (shaped.0, shaped_first ds es shaped.1)

pub shaped_rest : (ds es : List Domain) → AreShaped (ds ++ es) → AreShaped es
shaped_rest [] es shaped = shaped
shaped_rest (d ∷ ds) es shaped = shaped_rest ds es shaped.1

pub shaped_both : (ds es : List Domain) → AreShaped ds → AreShaped es → AreShaped (ds ++ es)
shaped_both [] es first rest = rest
shaped_both (d ∷ ds) es first rest = (first.0, shaped_both ds es first.1 rest)

pub parts_both : (ds es : List Domain) → all_parts (ds ++ es) ≡ all_parts ds ++ all_parts es
parts_both [] es = refl
parts_both (d ∷ ds) es = ap (λ ps. domain_parts d ++ ps) (parts_both ds es) ∙ sym (append_assoc (domain_parts d) (all_parts ds) (all_parts es))

pub contents_both : (ds es : List Domain) (k : ℕ) (x : Values) → cell_contents (ds ++ es) k x ≡ cell_contents ds k x ++ cell_contents es (after_domains ds k) x
contents_both [] es k x = refl
contents_both (d ∷ ds) es k x = ap (λ cs. cell_content d k x ∷ cs) (contents_both ds es (next d.opt k) x)

-- the parts of the cells fit, and those after them
pub fits_split : (ds es : List Domain) (k : ℕ) (x : Values) → AllFit (all_parts (ds ++ es)) k x → AllFit (all_parts ds) k x × AllFit (all_parts es) (after_domains ds k) x
fits_split [] es k x fits = (tt, fits)
fits_split (d ∷ ds) es k x fits =
    let p = part_of d in
    let rest = fits_split ds es (next d.opt k) x (fit_after d.opt p (all_parts (ds ++ es)) k x fits) in
    (fit_both d.opt p (all_parts ds) k x (fit_first d.opt p (all_parts (ds ++ es)) k x fits) rest.0, rest.1)

pub defaults_both : (ds es : List Domain) (k : ℕ) (x : Values) → HaveDefaults ds k x → HaveDefaults es (after_domains ds k) x → HaveDefaults (ds ++ es) k x
defaults_both [] es k x first rest = rest
defaults_both (d ∷ ds) es k x first rest = (first.0, defaults_both ds es (next d.opt k) x first.1 rest)

pub defaults_split : (ds es : List Domain) (k : ℕ) (x : Values) → HaveDefaults (ds ++ es) k x → HaveDefaults ds k x × HaveDefaults es (after_domains ds k) x
defaults_split [] es k x defaults = (tt, defaults)
defaults_split (d ∷ ds) es k x defaults =
    let rest = defaults_split ds es (next d.opt k) x defaults.1 in
    ((defaults.0, rest.0), rest.1)

pub lie_both : (ds es : List Domain) (cs bs : List Content) → all_lie_in ds cs ≡ true → all_lie_in es bs ≡ true → all_lie_in (ds ++ es) (cs ++ bs) ≡ true
unfolding all_lie_in
lie_both [] es [] bs first rest = rest
lie_both [] es (c ∷ cs) bs first rest = absurd (cc)
lie_both (d ∷ ds) es [] bs first rest = absurd (cc)
lie_both (d ∷ ds) es (c ∷ cs) bs first rest =
    let both = and_parts (lies_in d c) (all_lie_in ds cs) first in
    rw (both.0, lie_both ds es cs bs both.1 rest) refl

pub lie_count : (ds : List Domain) (cs : List Content) (k : ℕ) (x : Values) → all_lie_in ds cs ≡ true → length (cell_contents ds k x) ≡ length cs
unfolding all_lie_in
lie_count [] [] k x lie = refl
lie_count [] (c ∷ cs) k x lie = absurd (cc)
lie_count (d ∷ ds) [] k x lie = absurd (cc)
lie_count (d ∷ ds) (c ∷ cs) k x lie = ap suc (lie_count ds cs (next d.opt k) x (and_parts (lies_in d c) (all_lie_in ds cs) lie).1)

pub same_count : (ds : List Domain) (k : ℕ) (x y : Values) → length (cell_contents ds k x) ≡ length (cell_contents ds k y)
same_count [] k x y = refl
same_count (d ∷ ds) k x y = ap suc (same_count ds (next d.opt k) x y)

-- ---- choices

pub choices_legal : (ds : List Domain) (j k : ℕ) (y : Values) (c : ℕ → Content) → AreShaped ds → AllFit (all_parts ds) k y → Chooses ds j k y c → AreLegalFrom j c ds
choices_legal [] j k y c shaped fits chooses = tt
choices_legal (d ∷ ds) j k y c shaped fits chooses =
    (ap (lies_in d) chooses.0 ∙ cell_lies d k y shaped.0 (fit_first d.opt (part_of d) (all_parts ds) k y fits), choices_legal ds (suc j) (next d.opt k) y c shaped.1 (fit_after d.opt (part_of d) (all_parts ds) k y fits) chooses.1)

abbrev pub choice_codes : List Domain → ℕ → (ℕ → Content) → List (ℤ × List Range)
choice_codes [] j c = []
choice_codes (d ∷ ds) j c = code d.opt d.set (c j) ++ choice_codes ds (suc j) c

pub choices_coded : (ds : List Domain) (j k : ℕ) (y : Values) (c : ℕ → Content) → AreShaped ds → AreLegalFrom j c ds → AreCodes y k (choice_codes ds j c) → AllFit (all_parts ds) k y × Chooses ds j k y c
choices_coded [] j k y c shaped legal codes = (tt, tt)
choices_coded (d ∷ ds) j k y c shaped legal codes =
    let first = cell_coded d (c j) k y shaped.0 legal.0 (codes_first (code d.opt d.set (c j)) (choice_codes ds (suc j) c) k y codes) in
    let rest = choices_coded ds (suc j) (next d.opt k) y c shaped.1 legal.1 (codes_after d.opt d.set (c j) (choice_codes ds (suc j) c) k y codes) in
    (fit_both d.opt (part_of d) (all_parts ds) k y first.fits rest.0, (sym first.is, rest.1))

-- choices that have the values of the parts
abbrev pub choice_in : List Domain → ℕ → Values → ℕ → Content
choice_in [] k y j = values.absent
choice_in (d ∷ ds) k y zero = cell_content d k y
choice_in (d ∷ ds) k y (suc j) = choice_in ds (next d.opt k) y j

chooses_from : (ds : List Domain) (j k : ℕ) (y : Values) (c : ℕ → Content) → ((i : ℕ) → c (j + i) ≡ choice_in ds k y i) → Chooses ds j k y c
chooses_from [] j k y c same = tt
chooses_from (d ∷ ds) j k y c same =
    (ap c (omega arith) ∙ same 0, chooses_from ds (suc j) (next d.opt k) y c (λ i. ap c (omega arith) ∙ same (suc i)))

pub some_choices : (ds : List Domain) (y : Values) → Chooses ds 0 0 y (choice_in ds 0 y)
some_choices ds y = chooses_from ds 0 0 y (choice_in ds 0 y) (λ i. ap (choice_in ds 0 y) (omega arith))

-- ---- values that are given codes

abbrev pub code_or : Option (ℤ × List Range) → ℤ × List Range
code_or None = (pos 0, [])
code_or (Some z) = z

abbrev pub with_codes : List (ℤ × List Range) → Values
with_codes zs = record { number = λ k. (code_or (slice_get zs k)).0; set = λ k. (code_or (slice_get zs k)).1 }

codes_from : (all zs : List (ℤ × List Range)) (k : ℕ) → ((j : ℕ) → slice_get all (k + j) ≡ slice_get zs j) → AreCodes (with_codes all) k zs
codes_from all [] k same = tt
codes_from all (z ∷ zs) k same =
    let here : slice_get all k ≡ Some z = ap (slice_get all) (omega arith) ∙ same 0 in
    (ap (λ o. (code_or o).0) here, ap (λ o. (code_or o).1) here, codes_from all zs (suc k) (λ j. ap (slice_get all) (omega arith) ∙ same (suc j)))

pub codes_given : (zs : List (ℤ × List Range)) → AreCodes (with_codes zs) 0 zs
codes_given zs = codes_from zs zs 0 (λ j. ap (slice_get zs) (omega arith))
