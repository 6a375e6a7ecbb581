-- Loops that make the values of a solution.
use Rattle.std.proofs.Common.{◌≡◌, ℕ, zero, suc, ◌<◌, ◌≤◌, ◌+◌, List, [], ◌∷◌, ◌++◌, length, map, drop, get_or, refl, sym, ap, ◌∙◌, arith, Option, Some, None, append_assoc, ◌⊎◌, inl, inr, min, take, Bool, true, false}
use Rattle.std.proofs.lemmas.List.{drop_all, append-nil, get_or_default, length-drop, length-map, map-set}
use Rattle.std.proofs.lemmas.Bool.{cases_lt}
use Rattle.mz_value.specs.Ranges.{Range}
use Rattle.mz_value.specs.Contents.{Content}
use Rattle.std.specs.Prelude.{slice_get}
use Rattle.std.specs.Option.{option_map}
use Rattle.std.proofs.Math.ListN.{set}
use Rattle.std.proofs.lemmas.Option.{slice_get-map, slice_get-get_or}
use Rattle.fz_items.specs.Gives.{Fits}
use Rattle.fz_items.proofs.Loops.{cut, cut_map}
use Rattle.fz_items.specs.declared.outputs.Slot.{Slot}
use Rattle.fz_items.specs.Items.{◌>>=◌, Elements}
use Rattle.fz_items.specs.Forms.{Form}
use Rattle.soln_reader.specs.Blocks.{Given, put_in, put, optional, optional_all, solved, solution, nothing_for, nothing_given}

abbrev pub with_all : List Content → Option (List Content) → Option (List Content)
with_all prefix None = None
with_all prefix (Some xs) = Some (prefix ++ xs)

pub with_none : (r : Option (List Content)) → with_all [] r ≡ r
with_none None = refl
with_none (Some r) = refl

pub get_or_same : {X : Type 0} (xs : List X) (k : ℕ) (d : X) → k < length xs → get_or xs k d ≡ get_or xs k (get_or xs k d)
get_or_same xs k d below = get_or_default xs k d (get_or xs k d) below

joined : (prefix : List Content) (x : Content) (r : Option (List Content)) → with_all (prefix ++ x ∷ []) r ≡ with_all prefix (r >>= λ xs. Some (x ∷ xs))
joined prefix x None = refl
joined prefix x (Some r) = rw append_assoc refl

-- options

optional_some : (d : List Range) (ds : List (List Range)) (o : Content) (os : List Content) (x : Content) (xs : List Content) (y : Content) → optional d o x ≡ Some y → optional_all (d ∷ ds) (o ∷ os) (x ∷ xs) ≡ (optional_all ds os xs >>= λ ys. Some (y ∷ ys))
unfolding optional_all
optional_some d ds o os x xs y e = rw e refl

optional_none : (d : List Range) (ds : List (List Range)) (o : Content) (os : List Content) (x : Content) (xs : List Content) → optional d o x ≡ None → optional_all (d ∷ ds) (o ∷ os) (x ∷ xs) ≡ None
unfolding optional_all
optional_none d ds o os x xs e = rw e refl

pub optional_step : {X : Type 0} (f : X → Content) (ds : List (List Range)) (os xs : List X) (k : ℕ) (d : List Range) (o x : X) (prefix more : List Content) (y : Content) (whole : Option (List Content)) → k < length ds → k < length os → k < length xs → d ≡ get_or ds k d → o ≡ get_or os k o → x ≡ get_or xs k x → optional d (f o) (f x) ≡ Some y → more ≡ prefix ++ y ∷ [] → with_all prefix (optional_all (drop k ds) (drop k (map f os)) (drop k (map f xs))) ≡ whole → with_all more (optional_all (drop (k + 1) ds) (drop (k + 1) (map f os)) (drop (k + 1) (map f xs))) ≡ whole
optional_step f ds os xs k d o x prefix more y whole bd bo bx id io ix e pushed so_far =
    let rest = optional_all (drop (k + 1) ds) (drop (k + 1) (map f os)) (drop (k + 1) (map f xs)) in
    ap (λ zs. with_all zs rest) pushed ∙ joined prefix y rest
    ∙ ap (with_all prefix) (sym (optional_some d (drop (k + 1) ds) (f o) (drop (k + 1) (map f os)) (f x) (drop (k + 1) (map f xs)) y e))
    ∙ ap (λ es. with_all prefix (optional_all es (f o ∷ drop (k + 1) (map f os)) (f x ∷ drop (k + 1) (map f xs)))) (sym (cut ds k d bd id))
    ∙ ap (λ es. with_all prefix (optional_all (drop k ds) es (f x ∷ drop (k + 1) (map f xs)))) (sym (cut_map f os k o bo io))
    ∙ ap (λ es. with_all prefix (optional_all (drop k ds) (drop k (map f os)) es)) (sym (cut_map f xs k x bx ix)) ∙ so_far

pub optional_fails : {X : Type 0} (f : X → Content) (ds : List (List Range)) (os xs : List X) (k : ℕ) (d : List Range) (o x : X) (prefix : List Content) (whole : Option (List Content)) → k < length ds → k < length os → k < length xs → d ≡ get_or ds k d → o ≡ get_or os k o → x ≡ get_or xs k x → with_all prefix (optional_all (drop k ds) (drop k (map f os)) (drop k (map f xs))) ≡ whole → optional d (f o) (f x) ≡ None → whole ≡ None
optional_fails f ds os xs k d o x prefix whole bd bo bx id io ix so_far e =
    sym so_far ∙ ap (with_all prefix) (ap (λ es. optional_all es (drop k (map f os)) (drop k (map f xs))) (cut ds k d bd id)
    ∙ ap (λ es. optional_all (d ∷ drop (k + 1) ds) es (drop k (map f xs))) (cut_map f os k o bo io)
    ∙ ap (λ es. optional_all (d ∷ drop (k + 1) ds) (f o ∷ drop (k + 1) (map f os)) es) (cut_map f xs k x bx ix)
    ∙ optional_none d (drop (k + 1) ds) (f o) (drop (k + 1) (map f os)) (f x) (drop (k + 1) (map f xs)) e)

optional_end : (ds : List (List Range)) (os xs : List Content) → (length ds ≤ 0) ⊎ ((length os ≤ 0) ⊎ (length xs ≤ 0)) → optional_all ds os xs ≡ Some []
unfolding optional_all
optional_end [] os xs h = refl
optional_end (d ∷ ds) [] xs h = refl
optional_end (d ∷ ds) (o ∷ os) [] h = refl
optional_end (d ∷ ds) (o ∷ os) (x ∷ xs) (inl h) = absurd (omega arith)
optional_end (d ∷ ds) (o ∷ os) (x ∷ xs) (inr (inl h)) = absurd (omega arith)
optional_end (d ∷ ds) (o ∷ os) (x ∷ xs) (inr (inr h)) = absurd (omega arith)

-- shapes

solution_some : (f : Form) (fs : List Form) (g : Given) (gs : List Given) (x : Content) → solved f g ≡ Some x → solution (f ∷ fs) (g ∷ gs) ≡ (solution fs gs >>= λ xs. Some (x ∷ xs))
unfolding solution
solution_some f fs g gs x e = rw e refl

solution_none : (f : Form) (fs : List Form) (g : Given) (gs : List Given) → solved f g ≡ None → solution (f ∷ fs) (g ∷ gs) ≡ None
unfolding solution
solution_none f fs g gs e = rw e refl

solution_short : (fs : List Form) → 0 < length fs → solution fs [] ≡ None
unfolding solution
solution_short [] h = absurd (omega arith)
solution_short (f ∷ fs) h = refl

solution_nil : (gs : List Given) → solution [] gs ≡ Some []
unfolding solution
solution_nil gs = refl

pub solution_step : {X Y : Type 0} (f : X → Form) (h : Y → Given) (ss : List X) (gs : List Y) (k : ℕ) (s : X) (g : Y) (prefix more : List Content) (x : Content) (whole : Option (List Content)) → k < length ss → k < length gs → s ≡ get_or ss k s → g ≡ get_or gs k g → solved (f s) (h g) ≡ Some x → more ≡ prefix ++ x ∷ [] → with_all prefix (solution (drop k (map f ss)) (drop k (map h gs))) ≡ whole → with_all more (solution (drop (k + 1) (map f ss)) (drop (k + 1) (map h gs))) ≡ whole
solution_step f h ss gs k s g prefix more x whole bs bg is ig e pushed so_far =
    let rest = solution (drop (k + 1) (map f ss)) (drop (k + 1) (map h gs)) in
    ap (λ zs. with_all zs rest) pushed ∙ joined prefix x rest
    ∙ ap (with_all prefix) (sym (solution_some (f s) (drop (k + 1) (map f ss)) (h g) (drop (k + 1) (map h gs)) x e))
    ∙ ap (λ es. with_all prefix (solution es (h g ∷ drop (k + 1) (map h gs)))) (sym (cut_map f ss k s bs is))
    ∙ ap (λ es. with_all prefix (solution (drop k (map f ss)) es)) (sym (cut_map h gs k g bg ig)) ∙ so_far

pub solution_fails : {X Y : Type 0} (f : X → Form) (h : Y → Given) (ss : List X) (gs : List Y) (k : ℕ) (s : X) (g : Y) (prefix : List Content) (whole : Option (List Content)) → k < length ss → k < length gs → s ≡ get_or ss k s → g ≡ get_or gs k g → with_all prefix (solution (drop k (map f ss)) (drop k (map h gs))) ≡ whole → solved (f s) (h g) ≡ None → whole ≡ None
solution_fails f h ss gs k s g prefix whole bs bg is ig so_far e =
    sym so_far ∙ ap (with_all prefix) (ap (λ es. solution es (drop k (map h gs))) (cut_map f ss k s bs is)
    ∙ ap (λ es. solution (f s ∷ drop (k + 1) (map f ss)) es) (cut_map h gs k g bg ig)
    ∙ solution_none (f s) (drop (k + 1) (map f ss)) (h g) (drop (k + 1) (map h gs)) e)

-- nothing was given for the first shape

some_short : {X : Type 0} (f : X → Content) (ds : List (List Range)) (os xs : List X) (k : ℕ) → min (min (length ds) (length os)) (length xs) ≤ k → (length (drop k ds) ≤ 0) ⊎ ((length (drop k (map f os)) ≤ 0) ⊎ (length (drop k (map f xs)) ≤ 0))
some_short f ds os xs k all = elim (cases_lt k (length ds)) [
  | inr p ↦ inl (simp length-drop (omega arith))
  | inl p ↦ elim (cases_lt k (length os)) [
    | inr q ↦ inr (inl (simp (length-drop, length-map) (omega arith)))
    | inl q ↦ inr (inr (simp (length-drop, length-map) (omega arith)))
  ]
]

pub optional_done : {X : Type 0} (f : X → Content) (ds : List (List Range)) (os xs : List X) (k : ℕ) (prefix : List Content) (whole : Option (List Content)) → min (min (length ds) (length os)) (length xs) ≤ k → with_all prefix (optional_all (drop k ds) (drop k (map f os)) (drop k (map f xs))) ≡ whole → whole ≡ Some prefix
optional_done f ds os xs k prefix whole all so_far =
    sym so_far ∙ ap (with_all prefix) (optional_end (drop k ds) (drop k (map f os)) (drop k (map f xs)) (some_short f ds os xs k all)) ∙ ap Some (append-nil prefix)

pub solution_done : {X : Type 0} (f : X → Form) (ss : List X) (gs : List Given) (k : ℕ) (prefix : List Content) (whole : Option (List Content)) → length ss ≤ k → with_all prefix (solution (drop k (map f ss)) gs) ≡ whole → whole ≡ Some prefix
solution_done f ss gs k prefix whole all so_far =
    sym so_far ∙ ap (λ fs. with_all prefix (solution fs gs)) (drop_all k (map f ss) (simp length-map all)) ∙ ap (with_all prefix) (solution_nil gs) ∙ ap Some (append-nil prefix)

pub solution_lacks : {X Y : Type 0} (f : X → Form) (h : Y → Given) (ss : List X) (gs : List Y) (k : ℕ) (prefix : List Content) (whole : Option (List Content)) → k < length ss → length gs ≤ k → with_all prefix (solution (drop k (map f ss)) (drop k (map h gs))) ≡ whole → whole ≡ None
solution_lacks f h ss gs k prefix whole below all so_far =
    sym so_far ∙ ap (λ es. with_all prefix (solution (drop k (map f ss)) es)) (drop_all k (map h gs) (simp length-map all))
    ∙ ap (with_all prefix) (solution_short (drop k (map f ss)) (simp (length-drop, length-map) (omega arith)))

-- elements so far, with those to come
pub copied_step : {X : Type 0} (f : X → Content) (xs : List X) (k : ℕ) (d : X) (prefix more : List Content) → k < length xs → more ≡ prefix ++ f (get_or xs k d) ∷ [] → prefix ++ drop k (map f xs) ≡ map f xs → more ++ drop (k + 1) (map f xs) ≡ map f xs
copied_step f xs k d prefix more below pushed so_far =
    ap (λ zs. zs ++ drop (k + 1) (map f xs)) pushed ∙ append_assoc prefix (f (get_or xs k d) ∷ []) (drop (k + 1) (map f xs))
    ∙ ap (λ ys. prefix ++ ys) (sym (cut_map f xs k (get_or xs k d) below (get_or_same xs k d below))) ∙ so_far

some_same : {A : Type 0} (x y : A) → Some x ≡ Some y → x ≡ y
some_same x y e = cc

pub copied_step_at : {X : Type 0} (f : X → Content) (xs : List X) (k : ℕ) (x : X) (prefix more : List Content) (y : Content) → k < length xs → x ≡ get_or xs k x → Some (f x) ≡ Some y → more ≡ prefix ++ y ∷ [] → prefix ++ drop k (map f xs) ≡ map f xs → more ++ drop (k + 1) (map f xs) ≡ map f xs
copied_step_at f xs k x prefix more y below is same pushed so_far =
    copied_step f xs k x prefix more below (pushed ∙ ap (λ z. prefix ++ z ∷ []) (sym (some_same (f x) y same) ∙ ap f is)) so_far

-- what is given for nothing yet

nothing_more : {X : Type 0} (form : X → Form) (xs : List X) (k : ℕ) → k < length xs → nothing_for (take (k + 1) (map form xs)) ≡ nothing_for (take k (map form xs)) ++ nothing_given ∷ []
nothing_more form [] k h = absurd (omega arith)
nothing_more form (x ∷ xs) zero h = refl
nothing_more form (x ∷ xs) (suc k) h =
    let e : suc k + 1 ≡ suc (k + 1) = omega arith in
    ap (λ n. nothing_for (take n (map form (x ∷ xs)))) e ∙ ap (λ gs. nothing_given ∷ gs) (nothing_more form xs k (omega arith))

pub nothing_step : {X : Type 0} (form : X → Form) (xs : List X) (k : ℕ) (gs : List Given) → k < length xs → gs ≡ nothing_for (take k (map form xs)) → gs ++ nothing_given ∷ [] ≡ nothing_for (take (k + 1) (map form xs))
nothing_step form xs k gs below so_far = ap (λ hs. hs ++ nothing_given ∷ []) so_far ∙ sym (nothing_more form xs k below)

take_whole : {X : Type 0} (n : ℕ) (xs : List X) → length xs ≤ n → take n xs ≡ xs
take_whole zero [] h = refl
take_whole (suc n) [] h = refl
take_whole zero (x ∷ xs) h = absurd (omega arith)
take_whole (suc n) (x ∷ xs) h = ap (λ ys. x ∷ ys) (take_whole n xs (omega arith))

pub nothing_all : {X : Type 0} (form : X → Form) (xs : List X) (k : ℕ) → length xs ≤ k → nothing_for (take k (map form xs)) ≡ nothing_for (map form xs)
nothing_all form xs k all = ap nothing_for (take_whole k (map form xs) (simp length-map all))

-- an item that is put

pub fits_put : {X : Type 0} (view : X → Given) (r : Bool) (s : Slot) (e : Elements) (gs : List X) (g new : X) → s.shape < length gs → g ≡ get_or gs s.shape g → Fits r (put_in s.part e (view g)) (view new) → Fits r (put s e (map view gs)) (map view (set gs s.shape new))
unfolding put
fits_put view true s e gs g new below is fits =
    let got : slice_get (map view gs) s.shape ≡ Some (view g) = slice_get-map view gs s.shape ∙ ap (option_map view) (slice_get-get_or gs s.shape g below ∙ ap Some (sym is)) in
    rw got (rw fits (ap Some (sym (map-set view gs s.shape new))))
fits_put view false s e gs g new below is fits =
    let got : slice_get (map view gs) s.shape ≡ Some (view g) = slice_get-map view gs s.shape ∙ ap (option_map view) (slice_get-get_or gs s.shape g below ∙ ap Some (sym is)) in
    rw got (rw fits refl)

past_end : {X : Type 0} (xs : List X) (k : ℕ) → length xs ≤ k → slice_get xs k ≡ None
past_end [] k h = refl
past_end (x ∷ xs) zero h = absurd (omega arith)
past_end (x ∷ xs) (suc k) h = past_end xs k (omega arith)

pub put_past : {X : Type 0} (view : X → Given) (s : Slot) (e : Elements) (gs : List X) → length gs ≤ s.shape → put s e (map view gs) ≡ None
unfolding put
put_past view s e gs h = rw (past_end (map view gs) s.shape (simp length-map h)) refl
