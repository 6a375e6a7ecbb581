-- The elements of a line of places: symbols that stand for theirs.
use Rattle.std.proofs.Common.{◌≡◌, ◌∙◌, ℕ, ◌+◌, ◌*◌, ◌<◌, ◌≤◌, List, [], ◌∷◌, ◌++◌, length, map, take, get_or, slice_get, Option, Some, None, refl, sym, ap, subst, arith, if◌then◌else◌}
use Rattle.std.specs.Option.{option_and_then}
use Rattle.std.proofs.lemmas.List.{take_more, take_all}
use Rattle.mz_value.specs.Contents.{Content}
use Rattle.mz_arena.specs.Values.{Term, is_true}
use Rattle.mz_meaning.specs.Cells.{Bare}
use Rattle.mz_meaning.specs.Runs.{Out}
use Rattle.mz_symbol.specs.declared.types.Free.{Free}
use Rattle.mz_symbol.specs.declared.types.Symbol.{Symbol}
use Rattle.mz_symbol.specs.Symbols.{symbol_value, all_there, elements_value, AreItems}
use Rattle.mz_symbol.specs.Runs.{Run, ReadsNodes}
use Rattle.mz_symbol.specs.Readings.{Reading, Reads, line_in, state_of}
use Rattle.mz_symbol.specs.Makes.{GoesOn, GoesOnBy}
use Rattle.mz_symbol.proofs.RunLaws.{goes_on}
use Rattle.mz_symbol_rows.proofs.GoingOn.{goes_both}
use Rattle.mz_symbol_rows.specs.OptionValues.{IsWholeOf}
use Rattle.mz_symbol_rows.proofs.WholeLaws.{whole_later, whole_value, whole_item, item_value}
use Rattle.mz_model_roots.specs.Placed.{Keeps}
use Rattle.mz_model_roots.specs.StepsPlaces.{symbols_of, AreWholeOf, AreWholeSoFar}

-- ---- one after the other

wholes_later : (old new : Run) (fs : List Free) (xs : List Symbol) → ((r : Reading) → Reads r new → Reads r old) → AreWholeOf old fs xs → AreWholeOf new fs xs
wholes_later old new [] [] back h = tt
wholes_later old new [] (x ∷ xs) back h = absurd h
wholes_later old new (f ∷ fs) [] back h = absurd h
wholes_later old new (f ∷ fs) (x ∷ xs) back h = (whole_later old new f.symbol x back h.0, wholes_later old new fs xs back h.1)

and_whole : (s : Run) (fs : List Free) (xs : List Symbol) (f : Free) (x : Symbol) → AreWholeOf s fs xs → IsWholeOf s f.symbol x → AreWholeOf s (fs ++ f ∷ []) (xs ++ x ∷ [])
and_whole s [] [] f x h one = (one, tt)
and_whole s [] (y ∷ xs) f x h one = absurd h
and_whole s (g ∷ fs) [] f x h one = absurd h
and_whole s (g ∷ fs) (y ∷ xs) f x h one = (h.0, and_whole s fs xs f x h.1 one)

pub wholes_none : (s : Run) (fs : List Free) → AreWholeSoFar s s fs 0 []
wholes_none s fs = record { goes = record { back = λ r h. h; paid = omega arith }; keeps = record { same = λ r h. refl }; whole = tt }

pub wholes_more : (old mid new : Run) (fs : List Free) (n : ℕ) (xs : List Symbol) (f : Free) (x : Symbol) → n < length fs → f ≡ get_or fs n f → AreWholeSoFar old mid fs n xs → GoesOn mid new → ((r : Reading) → Reads r new → state_of r mid ≡ state_of r new) → IsWholeOf new f.symbol x → AreWholeSoFar old new fs (n + 1) (xs ++ x ∷ [])
wholes_more old mid new fs n xs f x low at h goes same one = record {
  goes = goes_on old mid new h.goes goes;
  keeps = record { same = λ r reads. h.keeps.same r (goes.back r reads) ∙ same r reads };
  whole =
      let more : take (n + 1) fs ≡ take n fs ++ f ∷ [] = take_more fs n f low ∙ ap (λ (f : Free). take n fs ++ f ∷ []) (sym at) in
      subst (λ (fs : List Free). AreWholeOf new fs (xs ++ x ∷ [])) (sym more) (and_whole new (take n fs) xs f x (wholes_later mid new (take n fs) xs goes.back h.whole) one);
}

pub wholes_all : (old new : Run) (fs : List Free) (n : ℕ) (xs : List Symbol) → length fs ≤ n → AreWholeSoFar old new fs n xs → AreWholeOf new fs xs
wholes_all old new fs n xs low h = subst (λ (fs : List Free). AreWholeOf new fs xs) (take_all n fs low) h.whole

-- ---- what they are

wholes_count : (s : Run) (fs : List Free) (xs : List Symbol) → AreWholeOf s fs xs → length xs ≡ length fs
wholes_count s [] [] h = refl
wholes_count s [] (x ∷ xs) h = absurd h
wholes_count s (f ∷ fs) [] h = absurd h
wholes_count s (f ∷ fs) (x ∷ xs) h = omega (arith, wholes_count s fs xs h.1)

wholes_items : (s : Run) (fs : List Free) (xs : List Symbol) (r : Reading) → AreWholeOf s fs xs → Reads r s → AreItems r.term (symbols_of fs) → AreItems r.term xs
wholes_items s [] [] r h reads items = tt
wholes_items s [] (x ∷ xs) r h reads items = absurd h
wholes_items s (f ∷ fs) [] r h reads items = absurd h
wholes_items s (f ∷ fs) (x ∷ xs) r h reads items = (whole_item s f.symbol x r h.0 reads items.0, wholes_items s fs xs r h.1 reads items.1)

wholes_values : (s : Run) (fs : List Free) (xs : List Symbol) (r : Reading) → AreWholeOf s fs xs → Reads r s → AreItems r.term (symbols_of fs) → map (symbol_value r.term) xs ≡ map (symbol_value r.term) (symbols_of fs)
wholes_values s [] [] r h reads items = refl
wholes_values s [] (x ∷ xs) r h reads items = absurd h
wholes_values s (f ∷ fs) [] r h reads items = absurd h
wholes_values s (f ∷ fs) (x ∷ xs) r h reads items =
    ap (λ v. v ∷ map (symbol_value r.term) xs) (whole_value s f.symbol x r h.0 reads (item_value r.term f.symbol items.0))
    ∙ ap (λ vs. symbol_value r.term f.symbol ∷ vs) (wholes_values s fs xs r h.1 reads items.1)

-- ---- terms that obey the nodes of a run read it

abbrev over : (ℕ → Term) → Run → Reading
over t s = record { mode = Bare; term = t; line = λ k. line_in t (slice_get s.lines k) }

over_reads : (t : ℕ → Term) (s : Run) → ReadsNodes t s.arena → Reads (over t s) s
over_reads t s h = record { nodes = h; choices = refl; lines = λ k l e. ap (line_in t) e }

abbrev pub AreItemsIn : Run → List Symbol → Type 0
AreItemsIn s xs = (t : ℕ → Term) → ReadsNodes t s.arena → AreItems t xs

pub items_kept : (old new : Run) (fs : List Free) (xs : List Symbol) → GoesOn old new → AreItemsIn old (symbols_of fs) → AreWholeOf new fs xs → AreItemsIn new xs
items_kept old new fs xs goes items h = λ t nodes.
    let reads = over_reads t new nodes in
    wholes_items new fs xs (over t new) h reads (items t (goes.back (over t new) reads).nodes)

-- ---- their line

-- the elements' values, where the line is defined
abbrev values_at : Term → List (Option Content) → Option (List Content)
values_at d vs = option_and_then (λ xs. if is_true d then Some xs else None) (all_there vs)

pub line_goes : (old mid new : Run) (fs : List Free) (xs : List Symbol) → GoesOn old mid → AreWholeOf mid fs xs → GoesOnBy (16 * length xs) mid new → GoesOnBy (16 * length fs) old new
line_goes old mid new fs xs before h goes = subst (λ n. GoesOnBy n old new) (omega (arith, wholes_count mid fs xs h)) (goes_both 0 (16 * length xs) old mid new before goes)

pub line_kept : (r : Reading) (old mid new : Run) (fs : List Free) (xs : List Symbol) (d line : ℕ) → GoesOn old mid → Keeps old mid → AreItemsIn old (symbols_of fs) → AreWholeOf mid fs xs → Reads r mid → Out (elements_value r.term d xs) (state_of r mid) ≡ Out (r.line line) (state_of r new) → Out (elements_value r.term d (symbols_of fs)) (state_of r old) ≡ Out (r.line line) (state_of r new)
line_kept r old mid new fs xs d line goes keeps items h reads is =
    let values = wholes_values mid fs xs r h reads (items r.term (goes.back r reads).nodes) in
    ap (λ vs. Out (values_at (r.term d) vs) (state_of r old)) (sym values)
    ∙ ap (Out (elements_value r.term d xs)) (keeps.same r reads)
    ∙ is
