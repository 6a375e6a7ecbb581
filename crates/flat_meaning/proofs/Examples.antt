-- A worked example: a program that is faithful to the instance of a small model with an option, a set, an array and a choice.
use Rattle.std.proofs.Common.{◌≡◌, ◌≢◌, ◌∙◌, ℕ, zero, suc, ℤ, pos, ◌≤ℤ◌, Bool, true, false, not, ◌&&◌, ◌||◌, List, [], ◌∷◌, ◌++◌, Option, Some, nat_eq, refl, sym, ap, inl, inr, ◌⊎◌, arith, if◌then◌else◌}
use Rattle.std.specs.List.{Contains, list_any}
use Rattle.std.specs.Ordering.{int_eq}
use Rattle.std.specs.Fmt.{digits}
use Rattle.std.specs.Str.{bytes_eq}
use Rattle.std.proofs.lemmas.Bool.{and_parts, not-true}
use Rattle.std.proofs.lemmas.Bool.Decides.{Decides-int_eq}
use Rattle.std.proofs.lemmas.Int.{ints}
use Rattle.std.proofs.lemmas.Slice.Eq.{bytes_eq-Decides}
use Rattle.mz_base.specs.Words.{is_keyword}
use Rattle.mz_value.specs.Ranges.{Range, AreCanonical, AreInLimit, Has}
use Rattle.mz_operations.specs.Views.{number_of_bool}
use Rattle.mz_operations.specs.Sets.{end_of}
use Rattle.mz_arena.specs.Entries.{folded, is_free}
use Rattle.mz_arena.specs.Values as terms
use Rattle.mz_arena.specs.Values.{comparison_term}
use Rattle.mz_arena.specs.Terms.{terms as all_terms}
use Rattle.mz_arena.specs.Numbering.{local_ids, local_ids_from}
use Rattle.mz_instance.specs.Parts.{truths, ids, parts, AllFitAt}
use Rattle.mz_instance.specs.Solved.{FitsNode, FitsArena, Holds, Defaults}
use Rattle.mz_instance.specs.Contents.{is_one}
use Rattle.mz_instance.specs.Sample.{one_or_two, arena, sample, choice}
use Rattle.mz_instance.proofs.Items.{each_at}
use Rattle.mz_instance.proofs.Nodes.{parts_fit}
use Rattle.mz_instance.proofs.SampleHolds.{nodes, locals}
use Rattle.fz_program.specs.Names.{Name}
use Rattle.fz_program.specs.Values.{Value, Values, number, set, number_in}
use Rattle.fz_program.specs.Table.{line}
use Rattle.fz_program.specs.Flat.{AreDistinct, labels, WellFormed, FlatSolves, kind_of_domain, same_kind, is_constant, is_plain, is_argument, are_arguments, is_set, weight, is_within, place_count}
use Rattle.flat_meaning.specs.Sample.{table, made, program}
use Rattle.flat_meaning.proofs.ReadingExamples.{defined_once}
use Rattle.flat_meaning.specs.Faithful.{IsReading, IsMet, Faithful}

-- ---- the program is well formed

abbrev differ : List Name → Bool
differ [] = true
differ (x ∷ xs) = not (list_any (bytes_eq x) xs) && differ xs

any_there : (xs : List Name) (x : Name) → Contains xs x → list_any (bytes_eq x) xs ≡ true
any_there [] x (k, below, at) = absurd (omega (arith, below))
any_there (y ∷ xs) x (zero, below, at) = let e : y ≡ x = cc in rw ((bytes_eq-Decides x y).1 (sym e)) refl
any_there (y ∷ xs) x (suc k, below, at) = by (bytes_eq x y) (any_there xs x (k, omega (arith, below), at))
  where
    by : (b : Bool) → list_any (bytes_eq x) xs ≡ true → b || list_any (bytes_eq x) xs ≡ true
    by true e = refl
    by false e = e

distinct_by : (xs : List Name) → differ xs ≡ true → AreDistinct xs
distinct_by [] e = tt
distinct_by (x ∷ xs) e =
    let both = and_parts (not (list_any (bytes_eq x) xs)) (differ xs) e in
    let none = not-true (list_any (bytes_eq x) xs) both.0 in
    (λ c. let some = any_there xs x c in cc, distinct_by xs both.1)

one_or_two_is_set : AreCanonical one_or_two × AreInLimit one_or_two
one_or_two_is_set = ((omega (arith, ints), tt, tt), ((omega (arith, ints), omega (arith, ints)), (omega (arith, ints), omega (arith, ints)), tt))

formed : WellFormed program
unfolding kind_of_domain same_kind is_constant is_plain is_argument are_arguments is_set weight is_within place_count line is_keyword
formed = record {
  distinct = distinct_by (labels program) refl;
  parts = record {
    vars = (
      record { label = refl; marks = (λ h. (refl, refl), λ h. absurd (cc)); some = tt; of_set = tt },
      (
        record { label = refl; marks = (λ h. (refl, refl), λ h. absurd (cc)); some = λ e. cc; of_set = one_or_two_is_set },
        (
          record { label = refl; marks = (λ h. (refl, refl), λ h. absurd (cc)); some = tt; of_set = one_or_two_is_set },
          (
            record { label = refl; marks = (λ h. (refl, refl), λ h. absurd (cc)); some = tt; of_set = tt },
            (
              record { label = refl; marks = (λ h. (refl, refl), λ h. absurd (cc)); some = tt; of_set = tt },
              (
                record { label = refl; marks = (λ h. absurd (cc), λ h. refl); some = λ e. cc; of_set = one_or_two_is_set },
                (record { label = refl; marks = (λ h. absurd (cc), λ h. refl); some = tt; of_set = tt }, tt),
              ),
            ),
          ),
        ),
      ),
    );
    arrays = (record { label = refl; index = refl; count = refl; alike = refl }, tt);
    rows = (record { args = refl; defines = refl; within = refl }, (record { args = refl; defines = refl; within = refl }, (record { args = refl; defines = refl; within = refl }, tt)));
    goal = refl;
  };
}

-- ---- what a solution stands for

-- the values by ids: o's occurrence and value, s, the places of b, and the choice
abbrev stands_for : ℤ → ℤ → List Range → ℤ → ℤ → ℤ → terms.Values
stands_for a b c d e g = record { number = λ id. if nat_eq id 1 then a else (if nat_eq id 3 then b else (if nat_eq id 5 then d else (if nat_eq id 6 then e else g))); set = λ id. c }

not_free : {A : Type 0} → false ≡ true → A
not_free e = absurd (cc)

truth_has : (n : ℤ) → (pos 0 ≤ℤ n) × (n ≤ℤ pos 1) → Has truths n
truth_has n within = inl within

fits : (a b d e g : ℤ) (c : List Range) → Has truths a → Has one_or_two b → AreCanonical c × ((n : ℤ) → Has c n → Has one_or_two n) → Has truths d → Has truths e → Has one_or_two g → FitsArena arena (stands_for a b c d e g)
fits a b d e g c ha hb hc hd he hg = each_at (λ id entry. is_free entry.node.kind ≡ true → FitsNode arena (stands_for a b c d e g) id entry) arena
    (λ f. not_free f, (λ f. record { over = _; domain = refl; fits = ha }, (λ f. not_free f, (λ f. record { over = _; domain = refl; fits = hb }, (λ f. record { over = _; domain = refl; fits = hc }, (λ f. record { over = _; domain = refl; fits = hd }, (λ f. record { over = _; domain = refl; fits = he }, (λ f. record { over = _; domain = refl; fits = hg }, (λ f. not_free f, (λ f. not_free f, tt))))))))))

some_value : {a b : Value} → Some a ≡ Some b → a ≡ b
some_value e = cc

-- where o isn't there, the clause makes its value 1
clause_default : (a b : ℤ) (h : Value) → number (number_of_bool (int_eq b (pos 1))) ≡ h → (is_one a || (is_one (number_in h) || false)) || not true ≡ true → is_one a ≡ false → b ≡ pos 1
clause_default a b h reif clause other = by (int_eq b (pos 1)) refl
  where
    by : (t : Bool) → int_eq b (pos 1) ≡ t → b ≡ pos 1
    by true e = (Decides-int_eq b (pos 1)).0 e
    by false e = let o : number (pos 0) ≡ h = ap (λ t. number (number_of_bool t)) (sym e) ∙ reif in absurd (let z = ap (λ h. (is_one a || (is_one (number_in h) || false)) || not true) o ∙ clause in let w = ap (λ t. (t || (false || false)) || false) (sym other) ∙ z in cc)

read : (f : Values) → FlatSolves program f → IsReading sample program f
unfolding line all_terms folded comparison_term end_of
read (number a ∷ number b ∷ set c ∷ number d ∷ number e ∷ number g ∷ number h ∷ []) s =
    let v = stands_for a b c d e g in
    let d0 = s.domains in
    let r = s.rows in
    record {
      values = v;
      fits = fits a b d e g c (truth_has a d0.0) d0.1.0 d0.1.1.0 (truth_has d d0.1.1.1.0) (truth_has e d0.1.1.1.1.0) d0.1.1.1.1.1.0;
      defaults = ((λ other. ap (λ n. Some n) (sym (clause_default a b (number h) (some_value r.0) r.1.0 other)), tt), ((tt, tt), ((tt, (tt, tt)), tt)));
      rest = number g ∷ number h ∷ [];
      front = refl;
      holds = record { roots = (ap (λ t. is_one (number_of_bool t)) r.1.1.0, tt); goal = refl };
    }
read [] s = absurd s.domains
read (set c ∷ f) s = absurd s.domains.0
read (number a ∷ []) s = absurd s.domains.1
read (number a ∷ set c ∷ f) s = absurd s.domains.1.0
read (number a ∷ number b ∷ []) s = absurd s.domains.1.1
read (number a ∷ number b ∷ number c ∷ f) s = absurd s.domains.1.1.0
read (number a ∷ number b ∷ set c ∷ []) s = absurd s.domains.1.1.1
read (number a ∷ number b ∷ set c ∷ set d ∷ f) s = absurd s.domains.1.1.1.0
read (number a ∷ number b ∷ set c ∷ number d ∷ []) s = absurd s.domains.1.1.1.1
read (number a ∷ number b ∷ set c ∷ number d ∷ set e ∷ f) s = absurd s.domains.1.1.1.1.0
read (number a ∷ number b ∷ set c ∷ number d ∷ number e ∷ []) s = absurd s.domains.1.1.1.1.1
read (number a ∷ number b ∷ set c ∷ number d ∷ number e ∷ set g ∷ f) s = absurd s.domains.1.1.1.1.1.0
read (number a ∷ number b ∷ set c ∷ number d ∷ number e ∷ number g ∷ []) s = absurd s.domains.1.1.1.1.1.1
read (number a ∷ number b ∷ set c ∷ number d ∷ number e ∷ number g ∷ set h ∷ f) s = absurd s.domains.1.1.1.1.1.1.0
read (number a ∷ number b ∷ set c ∷ number d ∷ number e ∷ number g ∷ number h ∷ i ∷ f) s = absurd s.domains.1.1.1.1.1.1.1

-- ---- and a solution for all values that fit

has_truth : (n : ℤ) → Has truths n → (pos 0 ≤ℤ n) × (n ≤ℤ pos 1)
has_truth n has = elim has [ inl within ↦ within | inr none ↦ absurd none ]

bit_within : (t : Bool) → (pos 0 ≤ℤ number_of_bool t) × (number_of_bool t ≤ℤ pos 1)
bit_within true = (omega (arith, ints), omega (arith, ints))
bit_within false = (omega (arith, ints), omega (arith, ints))

clause_holds : (a b : ℤ) → (is_one a ≡ false → Some (pos 1) ≡ Some b) → (is_one a || (is_one (number_of_bool (int_eq b (pos 1))) || false)) || not true ≡ true
clause_holds a b default = by (is_one a) refl
  where
    by : (t : Bool) → is_one a ≡ t → (t || (is_one (number_of_bool (int_eq b (pos 1))) || false)) || not true ≡ true
    by true e = refl
    by false e = let o : pos 1 ≡ b = (let s = default e in cc) in ap (λ b. (false || (is_one (number_of_bool (int_eq b (pos 1))) || false)) || not true) (sym o)

root_met : (t : Bool) → is_one (number_of_bool t) ≡ true → t ≡ true
root_met true e = refl
root_met false e = absurd (cc)

choice_fits : (v : terms.Values) → FitsArena arena v → Has one_or_two (v.number 7)
unfolding local_ids local_ids_from
choice_fits v fits = (parts_fit arena v true 0 (local_ids arena) (choice ∷ []) locals fits).0

met : (v : terms.Values) (n : Option ℤ) → FitsArena sample.arena v → Defaults sample.vars v → Holds sample v n → IsMet sample program v n
unfolding line all_terms folded comparison_term end_of
met v n fits defaults holds =
    let vars : AllFitAt (parts sample.vars) (ids sample.vars) v = parts_fit arena v false 0 (ids sample.vars) (parts sample.vars) nodes fits in
    let chosen = choice_fits v fits in
    record {
      rest = number (v.number 7) ∷ number (number_of_bool (int_eq (v.number 3) (pos 1))) ∷ [];
      solves = record {
        domains = (has_truth (v.number 1) vars.0, (vars.1.0, (vars.1.1.0, (has_truth (v.number 5) vars.1.1.1.0, (has_truth (v.number 6) vars.1.1.1.1.0, (chosen, (bit_within (int_eq (v.number 3) (pos 1)), tt)))))));
        rows = (refl, (clause_holds (v.number 1) (v.number 3) defaults.0.0, (root_met (int_eq (v.number 7) (pos 2)) holds.roots.0, tt)));
      };
      objective = sym holds.goal;
    }

pub faithful : Faithful sample table program
unfolding local_ids local_ids_from digits
faithful = record {
  formed = formed;
  goal = refl;
  introduced = made;
  vars = refl;
  are = (record { label = refl; introduced = refl; output = refl }, (record { label = refl; introduced = refl; output = refl }, tt));
  arrays = refl;
  once = defined_once;
  read = read;
  met = met;
  one = λ none. absurd (cc);
}
