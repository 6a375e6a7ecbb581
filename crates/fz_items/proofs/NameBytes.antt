-- Names are ASCII, and how tables of names find them.
use Rattle.std.proofs.Common.{◌≡◌, ℕ, zero, suc, ◌<◌, ◌+◌, List, [], ◌∷◌, ◌++◌, length, take, drop, get_or, Bool, true, false, cond, refl, sym, ap, ◌∙◌, arith, tests, Option, Some, None, map, ◌≤◌, is_some, add-one, codes}
use Rattle.std.proofs.lemmas.Bool.{false≢true}
use Rattle.std.specs.List.{prefix_len}
use Rattle.std.specs.Str.{IsUtf8, bytes_eq}
use Rattle.std.proofs.lemmas.Str.{IsUtf8-from_ascii}
use Rattle.std.proofs.Math.Numerals.{one-add}
use Rattle.fz_items.specs.Bytes.{is_name_byte}
use Rattle.std.proofs.lemmas.List.{drop_all}
use Rattle.std.proofs.lemmas.Slice.Eq.{bytes_eq-Decides}
use Rattle.fz_items.specs.declared.outputs.Slot.{Slot}
use Rattle.fz_items.specs.declared.outputs.Part.TheVariants.{Occurs, Value}
use Rattle.fz_items.specs.Forms.{Form, Output, slot, output_named, outputs_of, outputs_from}
use Rattle.fz_items.proofs.Loops.{cut_map}
use Rattle.fz_items.specs.Tables.{or_else}

is_low : (b : ℕ) → is_name_byte b ≡ true → b < 128
is_low b e = grind (arith, tests)

name_ascii : (bs : List ℕ) (i : ℕ) → get_or (take (prefix_len is_name_byte bs) bs) i 0 < 128
name_ascii [] i = omega arith
name_ascii (b ∷ bs) i = go (is_name_byte b) refl i (name_ascii bs)
  where
    go : (t : Bool) → is_name_byte b ≡ t → (i : ℕ) → ((j : ℕ) → get_or (take (prefix_len is_name_byte bs) bs) j 0 < 128) → get_or (take (cond t (1 + prefix_len is_name_byte bs) 0) (b ∷ bs)) i 0 < 128
    go true is zero rest = rw one-add (is_low b is)
    go true is (suc j) rest = rw one-add (rest j)
    go false is i rest = omega arith

pub name_utf8 : (bs : List ℕ) → IsUtf8 (take (prefix_len is_name_byte bs) bs)
name_utf8 bs = IsUtf8-from_ascii _ (name_ascii bs)

or_none : {A : Type 0} (o : Option A) → o ≡ or_else o None
or_none None = refl
or_none (Some x) = refl

or_some : {A : Type 0} (o p : Option A) → is_some o ≡ true → o ≡ or_else o p
or_some None p e = absurd (false≢true e)
or_some (Some x) p e = refl

three : {A : Type 0} (a b c : Option A) → or_else (or_else a b) c ≡ or_else a (or_else b c)
three None b c = refl
three (Some x) b c = refl

pub output_named-append : (q : List ℕ) (xs ys : List Output) → output_named q (xs ++ ys) ≡ or_else (output_named q xs) (output_named q ys)
unfolding output_named
output_named-append q [] ys = refl
output_named-append q (x ∷ xs) ys = go (bytes_eq q x.0) (output_named-append q xs ys)
  where
    go : (t : Bool) → output_named q (xs ++ ys) ≡ or_else (output_named q xs) (output_named q ys) → cond t (Some x.1) (output_named q (xs ++ ys)) ≡ or_else (cond t (Some x.1) (output_named q xs)) (output_named q ys)
    go true e = refl
    go false e = e

-- a look-up after a name that wasn't there was added
pub added : (f g : List ℕ → Option Slot) (name : List ℕ) (s : Slot) → f name ≡ None → ((q : List ℕ) → g q ≡ cond (bytes_eq name q) (Some s) (f q)) → (q : List ℕ) → g q ≡ or_else (f q) (output_named q ((name, s) ∷ []))
unfolding output_named
added f g name s none at q = at q ∙ go (bytes_eq name q) (bytes_eq q name) refl refl
  where
    go : (t u : Bool) → bytes_eq name q ≡ t → bytes_eq q name ≡ u → cond t (Some s) (f q) ≡ or_else (f q) (cond u (Some s) None)
    go true true is is' = rw (ap f (sym ((bytes_eq-Decides name q).0 is)) ∙ none) refl
    go false false is is' = or_none (f q)
    go true false is is' = absurd (false≢true (sym is' ∙ (bytes_eq-Decides q name).1 (sym ((bytes_eq-Decides name q).0 is))))
    go false true is is' = absurd (false≢true (sym is ∙ (bytes_eq-Decides name q).1 (sym ((bytes_eq-Decides q name).0 is'))))

-- and after one that was there wasn't
pub stays : (f : List ℕ → Option Slot) (name : List ℕ) (s : Slot) → is_some (f name) ≡ true → (q : List ℕ) → f q ≡ or_else (f q) (output_named q ((name, s) ∷ []))
unfolding output_named
stays f name s some q = go (bytes_eq q name) refl
  where
    go : (u : Bool) → bytes_eq q name ≡ u → f q ≡ or_else (f q) (cond u (Some s) None)
    go false is = or_none (f q)
    go true is = or_some (f q) (Some s) (ap (λ bs. is_some (f bs)) ((bytes_eq-Decides q name).0 is) ∙ some)

-- more outputs after some
pub also : (f g h : List ℕ → Option Slot) (xs ys : List Output) → ((q : List ℕ) → g q ≡ or_else (f q) (output_named q xs)) → ((q : List ℕ) → h q ≡ or_else (g q) (output_named q ys)) → (q : List ℕ) → h q ≡ or_else (f q) (output_named q (xs ++ ys))
also f g h xs ys one two q =
    two q ∙ ap (λ o. or_else o (output_named q ys)) (one q) ∙ three (f q) (output_named q xs) (output_named q ys) ∙ ap (or_else (f q)) (sym (output_named-append q xs ys))

-- what is found among the outputs so far and those to come
pub FindsAll : (List ℕ → Option Slot) → ℕ → List Form → List Form → Type 0
FindsAll f k rest all = (q : List ℕ) → or_else (f q) (output_named q (outputs_from k rest)) ≡ output_named q (outputs_from 0 all)

pub finds_begin : (f : List ℕ → Option Slot) (all : List Form) → ((q : List ℕ) → f q ≡ None) → FindsAll f 0 all all
unfolding FindsAll
finds_begin f all none q = rw (none q) refl

outputs_cons : (k : ℕ) (x : Form) (xs : List Form) → outputs_from k (x ∷ xs) ≡ outputs_of k x ++ outputs_from (suc k) xs
unfolding outputs_from
outputs_cons k x xs = refl

outputs_nil : (k : ℕ) → outputs_from k [] ≡ []
unfolding outputs_from
outputs_nil k = refl

named_nil : (q : List ℕ) → output_named q [] ≡ None
unfolding output_named
named_nil q = refl

pub finds_more : {X : Type 0} (form : X → Form) (f g : List ℕ → Option Slot) (xs : List X) (k : ℕ) (x : X) (all : List Form) → k < length xs → x ≡ get_or xs k x → ((q : List ℕ) → g q ≡ or_else (f q) (output_named q (outputs_of k (form x)))) → FindsAll f k (drop k (map form xs)) all → FindsAll g (k + 1) (drop (k + 1) (map form xs)) all
unfolding FindsAll
finds_more form f g xs k x all below is one so_far q =
    ap (λ o. or_else o (output_named q (outputs_from (k + 1) (drop (k + 1) (map form xs))))) (one q)
    ∙ three (f q) (output_named q (outputs_of k (form x))) (output_named q (outputs_from (k + 1) (drop (k + 1) (map form xs))))
    ∙ ap (or_else (f q)) (sym (output_named-append q (outputs_of k (form x)) (outputs_from (k + 1) (drop (k + 1) (map form xs)))))
    ∙ ap (λ n. or_else (f q) (output_named q (outputs_of k (form x) ++ outputs_from n (drop (k + 1) (map form xs))))) (add-one k)
    ∙ ap (λ os. or_else (f q) (output_named q os)) (sym (outputs_cons k (form x) (drop (k + 1) (map form xs))))
    ∙ ap (λ fs. or_else (f q) (output_named q (outputs_from k fs))) (sym (cut_map form xs k x below is)) ∙ so_far q

pub finds_end : (f : List ℕ → Option Slot) (k : ℕ) (rest all : List Form) → length rest ≤ k → FindsAll f k (drop k rest) all → (q : List ℕ) → f q ≡ output_named q (outputs_from 0 all)
unfolding FindsAll
finds_end f k rest all none so_far q =
    or_none (f q) ∙ ap (or_else (f q)) (sym (named_nil q)) ∙ ap (λ os. or_else (f q) (output_named q os)) (sym (outputs_nil k))
    ∙ ap (λ fs. or_else (f q) (output_named q (outputs_from k fs))) (sym (drop_all k rest none)) ∙ so_far q

-- the output names of a shape are added one by one
pub shape_optional : (old mid new : List ℕ → Option Slot) (k : ℕ) (f : Form) (one two : List ℕ) → f.opt ≡ true → one ≡ codes "X_OCC_" ++ f.label → two ≡ codes "X_VAL_" ++ f.label → ((q : List ℕ) → mid q ≡ or_else (old q) (output_named q ((one, slot k Occurs) ∷ []))) → ((q : List ℕ) → new q ≡ or_else (mid q) (output_named q ((two, slot k Value) ∷ []))) → (q : List ℕ) → new q ≡ or_else (old q) (output_named q (outputs_of k f))
shape_optional old mid new k f one two opt is_one is_two a b q =
    also old mid new ((one, slot k Occurs) ∷ []) ((two, slot k Value) ∷ []) a b q
    ∙ ap (λ n. or_else (old q) (output_named q ((n, slot k Occurs) ∷ (two, slot k Value) ∷ []))) is_one
    ∙ ap (λ n. or_else (old q) (output_named q ((codes "X_OCC_" ++ f.label, slot k Occurs) ∷ (n, slot k Value) ∷ []))) is_two
    ∙ rw opt refl

pub shape_plain : (old new : List ℕ → Option Slot) (k : ℕ) (f : Form) (one : List ℕ) → f.opt ≡ false → one ≡ f.label → ((q : List ℕ) → new q ≡ or_else (old q) (output_named q ((one, slot k Value) ∷ []))) → (q : List ℕ) → new q ≡ or_else (old q) (output_named q (outputs_of k f))
shape_plain old new k f one opt is_one a q =
    a q ∙ ap (λ n. or_else (old q) (output_named q ((n, slot k Value) ∷ []))) is_one ∙ rw opt refl
