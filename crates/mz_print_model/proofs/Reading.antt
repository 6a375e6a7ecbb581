-- What a block's items are read to.
use Rattle.std.proofs.Common.{◌≡◌, ◌∙◌, ℕ, zero, suc, ◌<◌, List, [], ◌∷◌, length, map, get_or, Bool, true, false, Option, Some, None, if◌then◌else◌, refl, sym, ap, arith, subst}
use Rattle.std.specs.List.{AllByRecursion}
use Rattle.mz_value.specs.Ranges.{Range}
use Rattle.mz_value.specs.Contents.{Content, absent}
use Rattle.fz_items.specs.Forms.{Form}
use Rattle.fz_items.specs.Items.{Elements, ◌>>=◌}
use Rattle.soln_reader.specs.Blocks.{Given, is_false, is_least, optional, optional_all, elements_of, whole, solved, solution}
use Rattle.mz_print_model.specs.Shapes.{forms_of}
use Rattle.mz_print_model.specs.ReadOff.{Named, told, occurrence_name, value_name, occurring, all_occurring, elements_read, value_read, values_read, AreLeast, HasLeast, HaveLeast, AreReadOff}

one_read : (f l : Bool) (x : Content) → (f ≡ true → l ≡ true) → (if f then (if l then Some absent else None) else Some x) ≡ Some (if f then absent else x)
one_read false l x h = refl
one_read true true x h = refl
one_read true false x h = absurd (no (h refl))
  where
    no : false ≡ true → ⊥
    no e = cc

all_read : (ds : List (List Range)) (os xs : List Content) → AreLeast ds os xs → optional_all ds os xs ≡ Some (all_occurring ds os xs)
unfolding optional_all all_occurring
all_read [] os xs h = refl
all_read (d ∷ ds) [] xs h = refl
all_read (d ∷ ds) (o ∷ os) [] h = refl
all_read (d ∷ ds) (o ∷ os) (x ∷ xs) h =
    ap (λ y. y >>= λ z. optional_all ds os xs >>= λ zs. Some (z ∷ zs)) (one_read (is_false o) (is_least x d) x h.0)
    ∙ ap (λ zs. zs >>= λ ys. Some (occurring o x ∷ ys)) (all_read ds os xs h.1)

elements_by : (opt : Bool) (ds : List (List Range)) (os : Elements) (xs : List Content) → (opt ≡ true → AreLeast ds os.items xs) → (if opt then ((if opt then Some os else None) >>= λ o. optional_all ds o.items xs) else Some xs) ≡ Some (if opt then all_occurring ds os.items xs else xs)
elements_by true ds os xs h = all_read ds os.items xs (h refl)
elements_by false ds os xs h = refl

value_is_read : (r : Named) (f : Form) → HasLeast r f → solved f (told r f) ≡ value_read r f
unfolding solved
value_is_read r f h = ap (λ xs. xs >>= λ ys. whole (r (value_name f)).index ys) (elements_by f.opt f.domains (r (occurrence_name f)) (r (value_name f)).items h)

values_are_read : (r : Named) (fs : List Form) → HaveLeast r fs → solution fs (map (told r) fs) ≡ values_read r fs
unfolding solution
values_are_read r [] h = refl
values_are_read r (f ∷ fs) h =
    ap (λ x. x >>= λ y. solution fs (map (told r) fs) >>= λ ys. Some (y ∷ ys)) (value_is_read r f h.0)
    ∙ ap (λ xs. value_read r f >>= λ y. xs >>= λ ys. Some (y ∷ ys)) (values_are_read r fs h.1)

pub read_off : AreReadOff
read_off table ms r h = values_are_read r (forms_of table ms) h

-- what holds of each element in a view holds of one of them
pub all_seen_at : {X Y : Type 0} (f : X → Y) (P : Y → Type 0) (xs : List X) (k : ℕ) (x : X) → AllByRecursion P (map f xs) → k < length xs → x ≡ get_or xs k x → P (f x)
all_seen_at f P [] k x all l is = absurd (omega arith)
all_seen_at {X} f P (y ∷ ys) zero x all l is = let Q : X → Type 0 = λ z. P (f z) in subst Q (sym is) all.0
all_seen_at f P (y ∷ ys) (suc k) x all l is = all_seen_at f P ys k x all.1 (omega arith) is
