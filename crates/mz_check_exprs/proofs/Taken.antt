-- Functions that are declared twice are found among those of one name.
use Rattle.std.proofs.Common.{◌≡◌, ◌∙◌, ℕ, ◌<◌, Bool, true, false, cond, List, [], ◌∷◌, ◌++◌, Option, Some, None, Result, Ok, Err, ◌≤◌, ◌+◌, length, take, drop, get_or, refl, sym, ap, subst, append-nil}
use Rattle.std.specs.Prelude.{nat_eq, ◌&&◌, ◌||◌}
use Rattle.std.specs.List.{list_any, flat_map}
use Rattle.std.proofs.lemmas.Grind.{flat_map-append}
use Rattle.std.proofs.lemmas.List.{drop_more, take_more}
use Rattle.std.proofs.Math.ListN.{drop_of_length-le}
use Rattle.mz_base.specs.declared.fault.Span.{Span}
use Rattle.mz_base.specs.declared.fault.Fault.{Fault}
use Rattle.mz_base.specs.declared.stop.Stop.{Stop}
use Rattle.mz_base.specs.declared.stop.Stop.TheVariants.{Refused}
use Rattle.mz_base.specs.declared.kind.Kind.TheVariants as kind
use Rattle.mz_base.specs.Faults.{fault_at}
use Rattle.mz_core.specs.Types.{PlainType}
use Rattle.mz_tree.specs.Tree.{Name}
use Rattle.mz_scope_order.specs.Parts.{function_at}
use Rattle.mz_scope_order.specs.Scoped.{ScopedTree}
use Rattle.mz_check_meaning.specs.Tests.{Test}
use Rattle.mz_check_meaning.specs.Models.{Model, Heading, signature_of, entry_of, entries_of, typed_so_far}
use Rattle.mz_check_meaning.specs.Passes.{Passes}
use Rattle.mz_check_meaning.specs.Duplicates.{Signed, is_same, is_in_library, is_taken, duplicate_after}
use Rattle.mz_check_meaning.specs.Checks.{signed_by, signed}
use Rattle.mz_check_context.specs.declared.groups.Groups.{Groups}
use Rattle.mz_check_context.specs.Tables.{numbers_found}
use Rattle.mz_check_context.proofs.Entries.{same_both}
use Rattle.mz_check_exprs.specs.StepsDuplicates.{has_types, is_taken_before, is_taken_with, taken_by, taken_at}

none_of_both : (b c : Bool) → c ≡ ((b && false) || c)
none_of_both true c = refl
none_of_both false c = refl

if_named : {A : Type 0} (b : Bool) (q : A → Bool) (k : A) (ks : List A) → list_any q (cond b (k ∷ ks) ks) ≡ ((b && q k) || list_any q ks)
if_named true q k ks = refl
if_named false q k ks = refl

-- among functions that come before
module _ (s : ScopedTree) (m : Model) where
  abbrev pub signed_at : Name × ℕ → List Signed
  signed_at f = signed_by s f (entry_of f.1 m.headings)

  abbrev pub signed_in : List (Name × ℕ) → List Signed
  signed_in fs = flat_map signed_at fs

  one_same : (g : Signed) (f : Name × ℕ) (o : Option (Test Heading)) (rest : List Signed) → list_any (is_same g) (signed_by s f o ++ rest) ≡ ((nat_eq g.name f.0 && has_types g.params o) || list_any (is_same g) rest)
  one_same g f (Some (Ok h)) rest = refl
  one_same g f (Some (Err e)) rest = none_of_both (nat_eq g.name f.0) (list_any (is_same g) rest)
  one_same g f None rest = none_of_both (nat_eq g.name f.0) (list_any (is_same g) rest)

  same_before : (g : Signed) (fs : List (Name × ℕ)) → list_any (is_same g) (signed_in fs) ≡ is_taken_before m (entries_of g.name fs) g.params
  unfolding entries_of
  same_before g [] = refl
  same_before g (f ∷ fs) =
      one_same g f (entry_of f.1 m.headings) (signed_in fs)
      ∙ ap (λ (b : Bool). (b && has_types g.params (entry_of f.1 m.headings)) || list_any (is_same g) (signed_in fs)) (same_both g.name f.0)
      ∙ ap (λ (b : Bool). (nat_eq f.0 g.name && has_types g.params (entry_of f.1 m.headings)) || b) (same_before g fs)
      ∙ sym (if_named (nat_eq f.0 g.name) (λ k. has_types g.params (entry_of k m.headings)) f.1 (entries_of g.name fs))

  taken_is : (g : Signed) (fs : List (Name × ℕ)) → is_taken m.texts (signed_in fs) g ≡ is_taken_with m (entries_of g.name fs) g.name g.params
  unfolding is_in_library
  taken_is g fs = ap (λ (b : Bool). b || is_in_library m.texts g) (same_before g fs)

  one_in : (f : Name × ℕ) (fs : List (Name × ℕ)) → signed_in (fs ++ f ∷ []) ≡ signed_in fs ++ signed_at f
  one_in f fs = flat_map-append signed_at fs (f ∷ []) ∙ ap (λ (gs : List Signed). signed_in fs ++ gs) (append-nil (signed_at f))

  -- a function that isn't taken is passed
  pass_case : (f : Name × ℕ) (o : Option (Test Heading)) (fs : List (Name × ℕ)) (rest : List Signed) → taken_by m (entries_of f.0 fs) f.0 o ≡ false → duplicate_after m.texts (signed_in fs) (signed_by s f o ++ rest) ≡ duplicate_after m.texts (signed_in fs ++ signed_by s f o) rest
  unfolding duplicate_after
  pass_case f (Some (Ok h)) fs rest e =
      let g : Signed = record { name = f.0; span = (function_at s.functions f.1).span; params = (signature_of h).params } in
      ap (λ (b : Bool). cond b (Some (fault_at kind.DuplicateName g.span)) (duplicate_after m.texts (signed_in fs ++ g ∷ []) rest)) (taken_is g fs ∙ e)
  pass_case f (Some (Err x)) fs rest e = ap (λ (gs : List Signed). duplicate_after m.texts gs rest) (sym (append-nil (signed_in fs)))
  pass_case f None fs rest e = ap (λ (gs : List Signed). duplicate_after m.texts gs rest) (sym (append-nil (signed_in fs)))

  pub passed : (f : Name × ℕ) (fs rest : List (Name × ℕ)) → taken_at m (entries_of f.0 fs) f.0 f.1 ≡ false → duplicate_after m.texts (signed_in fs) (signed_in (f ∷ rest)) ≡ duplicate_after m.texts (signed_in (fs ++ f ∷ [])) (signed_in rest)
  passed f fs rest e =
      pass_case f (entry_of f.1 m.headings) fs (signed_in rest) e
      ∙ ap (λ (gs : List Signed). duplicate_after m.texts gs (signed_in rest)) (sym (one_in f fs))

  -- the first that is taken is the answer
  found_case : (f : Name × ℕ) (o : Option (Test Heading)) (fs : List (Name × ℕ)) (rest : List Signed) → taken_by m (entries_of f.0 fs) f.0 o ≡ true → duplicate_after m.texts (signed_in fs) (signed_by s f o ++ rest) ≡ Some (fault_at kind.DuplicateName (function_at s.functions f.1).span)
  unfolding duplicate_after
  found_case f (Some (Ok h)) fs rest e =
      let g : Signed = record { name = f.0; span = (function_at s.functions f.1).span; params = (signature_of h).params } in
      ap (λ (b : Bool). cond b (Some (fault_at kind.DuplicateName g.span)) (duplicate_after m.texts (signed_in fs ++ g ∷ []) rest)) (taken_is g fs ∙ e)
  found_case f (Some (Err x)) fs rest e = absurd (cc)
  found_case f None fs rest e = absurd (cc)

  pub found_taken : (f : Name × ℕ) (fs rest : List (Name × ℕ)) → taken_at m (entries_of f.0 fs) f.0 f.1 ≡ true → duplicate_after m.texts (signed_in fs) (signed_in (f ∷ rest)) ≡ Some (fault_at kind.DuplicateName (function_at s.functions f.1).span)
  found_taken f fs rest e = found_case f (entry_of f.1 m.headings) fs (signed_in rest) e

-- none of the first functions is taken, and they are grouped by name
pub record HavePassed (s : ScopedTree) (m : Model) (fs : List (Name × ℕ)) (i : ℕ) (before : Groups) : Type 0 where
  pub grouped : (n : ℕ) → numbers_found before n ≡ entries_of n (take i fs)
  pub answer : duplicate_after m.texts [] (signed_in s m fs) ≡ duplicate_after m.texts (signed_in s m (take i fs)) (signed_in s m (drop i fs))

pub none_passed : (s : ScopedTree) (m : Model) (fs : List (Name × ℕ)) (before : Groups) → ((n : ℕ) → numbers_found before n ≡ []) → HavePassed s m fs 0 before
unfolding entries_of
none_passed s m fs before empty = record { grouped = empty; answer = refl }

next_is : (fs : List (Name × ℕ)) (i : ℕ) (f : Name × ℕ) → i < length fs → f ≡ get_or fs i f → drop i fs ≡ f ∷ drop (i + 1) fs
next_is fs i f low is = drop_more fs i f low ∙ ap (λ (g : Name × ℕ). g ∷ drop (i + 1) fs) (sym is)

taken_next : (fs : List (Name × ℕ)) (i : ℕ) (f : Name × ℕ) → i < length fs → f ≡ get_or fs i f → take (i + 1) fs ≡ take i fs ++ f ∷ []
taken_next fs i f low is = take_more fs i f low ∙ ap (λ (g : Name × ℕ). take i fs ++ g ∷ []) (sym is)

entries_more : (n : ℕ) (es : List (ℕ × ℕ)) (e : ℕ × ℕ) → entries_of n (es ++ e ∷ []) ≡ entries_of n es ++ cond (nat_eq e.0 n) (e.1 ∷ []) []
unfolding entries_of
entries_more n [] e = refl
entries_more n (x ∷ es) e = longer (nat_eq x.0 n) x.1 (entries_of n es) (entries_of n (es ++ e ∷ [])) (cond (nat_eq e.0 n) (e.1 ∷ []) []) (entries_more n es e)
  where
    longer : (b : Bool) (k : ℕ) (ks ls ms : List ℕ) → ls ≡ ks ++ ms → cond b (k ∷ ls) ls ≡ cond b (k ∷ ks) ks ++ ms
    longer true k ks ls ms h = ap (λ (xs : List ℕ). k ∷ xs) h
    longer false k ks ls ms h = h

pub one_passed : (s : ScopedTree) (m : Model) (fs : List (Name × ℕ)) (i : ℕ) (f : Name × ℕ) (before after : Groups) (taken : Bool) (numbers : List ℕ) → HavePassed s m fs i before → i < length fs → f ≡ get_or fs i f → numbers ≡ numbers_found before f.0 → taken ≡ taken_at m numbers f.0 f.1 → taken ≡ false → ((n : ℕ) → numbers_found after n ≡ numbers_found before n ++ cond (nat_eq f.0 n) (f.1 ∷ []) []) → HavePassed s m fs (i + 1) after
one_passed s m fs i f before after taken numbers passed_so_far low is found is_taken not_taken added =
    let next = taken_next fs i f low is in
    let not_here : taken_at m (entries_of f.0 (take i fs)) f.0 f.1 ≡ false = ap (λ (ks : List ℕ). taken_at m ks f.0 f.1) (sym (found ∙ passed_so_far.grouped f.0)) ∙ sym is_taken ∙ not_taken in
    record {
      grouped = λ n. added n ∙ ap (λ (ks : List ℕ). ks ++ cond (nat_eq f.0 n) (f.1 ∷ []) []) (passed_so_far.grouped n) ∙ sym (entries_more n (take i fs) f) ∙ ap (λ (es : List (Name × ℕ)). entries_of n es) (sym next);
      answer = passed_so_far.answer
          ∙ ap (λ (es : List (Name × ℕ)). duplicate_after m.texts (signed_in s m (take i fs)) (signed_in s m es)) (next_is fs i f low is)
          ∙ passed s m f (take i fs) (drop (i + 1) fs) not_here
          ∙ ap (λ (es : List (Name × ℕ)). duplicate_after m.texts (signed_in s m es) (signed_in s m (drop (i + 1) fs))) (sym next);
    }

pub one_taken : (s : ScopedTree) (m : Model) (fs : List (Name × ℕ)) (i : ℕ) (f : Name × ℕ) (before : Groups) (taken : Bool) (numbers : List ℕ) → HavePassed s m fs i before → i < length fs → f ≡ get_or fs i f → numbers ≡ numbers_found before f.0 → taken ≡ taken_at m numbers f.0 f.1 → taken ≡ true → fs ≡ m.functions → Some (fault_at kind.DuplicateName (function_at s.functions f.1).span) ≡ duplicate_after m.texts [] (signed s m)
unfolding signed
one_taken s m fs i f before taken numbers passed_so_far low is found is_taken taken_here functions =
    let here : taken_at m (entries_of f.0 (take i fs)) f.0 f.1 ≡ true = ap (λ (ks : List ℕ). taken_at m ks f.0 f.1) (sym (found ∙ passed_so_far.grouped f.0)) ∙ sym is_taken ∙ taken_here in
    sym (ap (λ (es : List (Name × ℕ)). duplicate_after m.texts [] (signed_in s m es)) (sym functions)
    ∙ passed_so_far.answer
    ∙ ap (λ (es : List (Name × ℕ)). duplicate_after m.texts (signed_in s m (take i fs)) (signed_in s m es)) (next_is fs i f low is)
    ∙ found_taken s m f (take i fs) (drop (i + 1) fs) here)

pub all_passed : (s : ScopedTree) (m : Model) (fs : List (Name × ℕ)) (i : ℕ) (before : Groups) → HavePassed s m fs i before → length fs ≤ i → fs ≡ m.functions → None ≡ duplicate_after m.texts [] (signed s m)
unfolding signed duplicate_after
all_passed s m fs i before passed_so_far past functions =
    sym (ap (λ (es : List (Name × ℕ)). duplicate_after m.texts [] (signed_in s m es)) (sym functions)
    ∙ passed_so_far.answer
    ∙ ap (λ (es : List (Name × ℕ)). duplicate_after m.texts (signed_in s m (take i fs)) (signed_in s m es)) (drop_of_length-le fs past))

-- ---- answers

pub or_later : (b r x : Bool) → b ≡ false → x ≡ r → x ≡ (b || r)
or_later b r x e f = f ∙ sym (ap (λ (c : Bool). c || r) e)

pub refused_types : (params : List PlainType) (at : Span) (o : Option (Test Heading)) (f : Fault) → typed_so_far at o ≡ Err f → false ≡ has_types params o
refused_types params at None f e = refl
refused_types params at (Some (Ok h)) f e = absurd (cc)
refused_types params at (Some (Err g)) f e = refl

pub refused_taken : (m : Model) (before : List ℕ) (n : Name) (at : Span) (o : Option (Test Heading)) (f : Fault) → typed_so_far at o ≡ Err f → false ≡ taken_by m before n o
refused_taken m before n at None f e = refl
refused_taken m before n at (Some (Ok h)) f e = absurd (cc)
refused_taken m before n at (Some (Err g)) f e = refl

err_is : {A : Type 0} (see : A → Heading) (r : Result A Stop) (s : Stop) (f : Fault) (t : Test Heading) → Passes see r t → r ≡ Err s → s ≡ Refused f → t ≡ Err f
err_is {A} see r s f t p e i = subst (λ (x : Stop). Passes see (Err x) t) i (subst (λ (z : Result A Stop). Passes see z t) e p)

pub types_refused : {A : Type 0} (see : A → Heading) (r : Result A Stop) (s : Stop) (f : Fault) (params : List PlainType) (at : Span) (o : Option (Test Heading)) → Passes see r (typed_so_far at o) → r ≡ Err s → s ≡ Refused f → false ≡ has_types params o
types_refused see r s f params at o p e i = refused_types params at o f (err_is see r s f (typed_so_far at o) p e i)

pub taken_refused : {A : Type 0} (see : A → Heading) (r : Result A Stop) (s : Stop) (f : Fault) (m : Model) (before : List ℕ) (n : Name) (at : Span) (o : Option (Test Heading)) → Passes see r (typed_so_far at o) → r ≡ Err s → s ≡ Refused f → false ≡ taken_by m before n o
taken_refused see r s f m before n at o p e i = refused_taken m before n at o f (err_is see r s f (typed_so_far at o) p e i)
