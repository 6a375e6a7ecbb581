-- Indices that are cells, one after another, and their places.
use Rattle.std.proofs.Common.{◌≡◌, ◌∙◌, ℕ, ◌+◌, ◌<◌, ◌≤◌, List, [], ◌∷◌, ◌++◌, map, length, min, get_or, refl, sym, ap, drop, append_assoc, append-nil}
use Rattle.std.specs.Prelude.{ℤ, Option, Some, None}
use Rattle.std.specs.Option.{option_and_then, option_map}
use Rattle.std.proofs.lemmas.List.{at_drop_more, at_drop_all}
use Rattle.mz_value.specs.Ranges.{Range}
use Rattle.mz_value.specs.Contents.{Content}
use Rattle.mz_index.specs.Places.{place_of, most}
use Rattle.mz_operations.specs.Views.{as_element}
use Rattle.mz_meaning.specs.Cells.{Cell, value_of}
use Rattle.mz_meaning.specs.Arrays.{all_there, all_indices, indices_in}
use Rattle.mz_eval_cells.specs.declared.types.Known.{Known}
use Rattle.mz_eval_cells.specs.Views.{cell_of, cells_of}
use Rattle.mz_eval_access.specs.Places.{cell_index, placed}

abbrev index_with : Option ℤ → Option (List ℤ) → Option (List ℤ)
index_with o rest = option_and_then (λ n. option_map (λ ns. n ∷ ns) rest) o

none_with : (o : Option ℤ) → index_with o None ≡ None
none_with None = refl
none_with (Some n) = refl

-- the indices, one after another
indices_more : (v : Option Content) (vs : List (Option Content)) → indices_in (v ∷ vs) ≡ index_with (option_and_then as_element v) (indices_in vs)
indices_more None vs = refl
indices_more (Some x) vs = by (all_there vs)
  where
    by : (o : Option (List Content)) → option_and_then all_indices (option_map (λ xs. x ∷ xs) o) ≡ index_with (as_element x) (option_and_then all_indices o)
    by None = sym (none_with (as_element x))
    by (Some xs) = refl

abbrev of_cells : List Cell → Option (List ℤ)
of_cells cs = indices_in (map value_of cs)

missing : (c : Cell) (cs : List Cell) → cell_index c ≡ None → of_cells (c ∷ cs) ≡ None
missing c cs e = indices_more (value_of c) (map value_of cs) ∙ ap (λ o. index_with o (of_cells cs)) e

there : (c : Cell) (cs : List Cell) (n : ℤ) → cell_index c ≡ Some n → of_cells (c ∷ cs) ≡ option_map (λ ns. n ∷ ns) (of_cells cs)
there c cs n e = indices_more (value_of c) (map value_of cs) ∙ ap (λ o. index_with o (of_cells cs)) e

-- ---- one index, and two

abbrev place_at : List Range → Option (List ℤ) → Option ℕ
place_at rs o = option_map (min most) (option_and_then (place_of rs) o)

pub one_missing : (rs : List Range) (c : Cell) → cell_index c ≡ None → placed rs (c ∷ []) ≡ None
one_missing rs c e = ap (place_at rs) (missing c [] e)

pub one_placed : (rs : List Range) (c : Cell) (n : ℤ) → cell_index c ≡ Some n → placed rs (c ∷ []) ≡ option_map (min most) (place_of rs (n ∷ []))
one_placed rs c n e = ap (place_at rs) (there c [] n e)

pub first_missing : (rs : List Range) (c d : Cell) → cell_index c ≡ None → placed rs (c ∷ d ∷ []) ≡ None
first_missing rs c d e = ap (place_at rs) (missing c (d ∷ []) e)

pub second_missing : (rs : List Range) (c d : Cell) (n : ℤ) → cell_index c ≡ Some n → cell_index d ≡ None → placed rs (c ∷ d ∷ []) ≡ None
second_missing rs c d n e f = ap (place_at rs) (there c (d ∷ []) n e ∙ ap (option_map (λ ns. n ∷ ns)) (missing d [] f))

pub two_placed : (rs : List Range) (c d : Cell) (n m : ℤ) → cell_index c ≡ Some n → cell_index d ≡ Some m → placed rs (c ∷ d ∷ []) ≡ option_map (min most) (place_of rs (n ∷ m ∷ []))
two_placed rs c d n m e f = ap (place_at rs) (there c (d ∷ []) n e ∙ ap (option_map (λ ns. n ∷ ns)) (there d [] m f))

-- ---- any indices

pub none_placed : (rs : List Range) (cs : List Cell) → of_cells cs ≡ None → placed rs cs ≡ None
none_placed rs cs e = ap (place_at rs) e

pub all_placed : (rs : List Range) (cs : List Cell) (is : List ℤ) → of_cells cs ≡ Some is → placed rs cs ≡ option_map (min most) (place_of rs is)
all_placed rs cs is e = ap (place_at rs) e

-- the indices so far, before those of the rest
abbrev pub after : List ℤ → Option (List ℤ) → Option (List ℤ)
after front rest = option_map (λ is. front ++ is) rest

abbrev pub of_known : List Known → Option (List ℤ)
of_known ks = indices_in (map value_of (cells_of ks))

pub none_before : (o : Option (List ℤ)) → after [] o ≡ o
none_before None = refl
none_before (Some is) = refl

one_front : (front : List ℤ) (n : ℤ) (o : Option (List ℤ)) → after (front ++ n ∷ []) o ≡ after front (option_map (λ ns. n ∷ ns) o)
one_front front n None = refl
one_front front n (Some is) = ap Some (append_assoc front (n ∷ []) is)

next : (ks : List Known) (i : ℕ) (k : Known) → i < length ks → k ≡ get_or ks i k → of_known (drop i ks) ≡ index_with (cell_index (cell_of k)) (of_known (drop (i + 1) ks))
next ks i k l e =
    at_drop_more of_known ks i k l ∙ ap (λ j. of_known (j ∷ drop (i + 1) ks)) (sym e) ∙ indices_more (value_of (cell_of k)) (map value_of (cells_of (drop (i + 1) ks)))

pub stops : (ks : List Known) (i : ℕ) (k : Known) (front : List ℤ) (whole q : Option (List ℤ)) → i < length ks → k ≡ get_or ks i k → cell_index (cell_of k) ≡ None → q ≡ None → after front (of_known (drop i ks)) ≡ whole → q ≡ whole
stops ks i k front whole q l e s n w = n ∙ sym (ap (after front) (next ks i k l e ∙ ap (λ o. index_with o (of_known (drop (i + 1) ks))) s)) ∙ w

pub goes : (ks : List Known) (i : ℕ) (k : Known) (front more : List ℤ) (whole : Option (List ℤ)) (n : ℤ) → i < length ks → k ≡ get_or ks i k → cell_index (cell_of k) ≡ Some n → more ≡ front ++ n ∷ [] → after front (of_known (drop i ks)) ≡ whole → after more (of_known (drop (i + 1) ks)) ≡ whole
goes ks i k front more whole n l e s f w =
    let rest = of_known (drop (i + 1) ks) in
    ap (λ g. after g rest) f ∙ one_front front n rest ∙ sym (ap (after front) (next ks i k l e ∙ ap (λ o. index_with o rest) s)) ∙ w

pub ends : (ks : List Known) (i : ℕ) (front : List ℤ) (whole : Option (List ℤ)) → length ks ≤ i → after front (of_known (drop i ks)) ≡ whole → Some front ≡ whole
ends ks i front whole l w = sym (ap (after front) (at_drop_all of_known ks i l) ∙ ap Some (append-nil front)) ∙ w
