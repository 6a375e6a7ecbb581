-- The value of an option with a number is a number within the option's limits.
use Rattle.std.proofs.Common.{◌≡◌, ◌<◌, ◌∙◌, ap, ℕ, List, [], ◌∷◌, length, zero, suc, Option, Some, None, map, refl, sym, subst, true, inl, inr, arith}
use Rattle.std.specs.List.{All, slice_index_or}
use Rattle.std.specs.Borrow.{Bor}
use Rattle.std.specs.Prelude.{option_map, slice_get}
use Rattle.std.proofs.lemmas.List.Elements.{All-get_or}
use Rattle.std.proofs.lemmas.Slice.Eq.{bytes_eq-Decides}
use Rattle.clap.proofs.CallerLemmas.{entry_by_id}
use Rattle.clap.proofs.WalkLemmas.{first_value-rows}
use Rattle.clap.specs.Facts.{Entry, EntryPasses, PassesArg, ValuesPass, args_of, groups_of, parser_of, parser_of_value}
use Rattle.clap.specs.Matches.{first_value, matched_of}
use Rattle.clap.specs.Values.{Accepts, IsUnsignedIn}
use Rattle.clap.specs.Walk.{Text, rows_of, rule_of}
use Rattle.clap.specs.declared.builder.arg.Arg.{Arg}
use Rattle.clap.specs.declared.builder.command.Command.{Command}
use Rattle.clap.specs.declared.builder.value_parser.ValueParser.{ValueParser}
use Rattle.clap.specs.declared.builder.value_parser.ValueParser.TheVariants.{Unsigned}
use Rattle.clap.specs.declared.parser.matches.Found.{Found}
use Rattle.clap.specs.declared.parser.matches.MatchedArg.{MatchedArg}
use Rattle.mz_words.specs.Parsed.{AreNumberRules, IsNumber, IsNumberRule}
use Rattle.mz_words.specs.Found.{IsWithin, number_found, number_in}

-- ---- what an argument of this name accepts

rule_at : (name : Text) (limit : ℕ) (args : List Arg) (place : ℕ) (arg : Arg) → AreNumberRules name limit (map rule_of args)
    → place < length args → slice_index_or args place arg ≡ arg → IsNumberRule name limit (rule_of arg)
rule_at name limit [] place arg rules below same = absurd (omega arith)
rule_at name limit (a ∷ args) zero arg rules below same = subst (λ (x : Arg). IsNumberRule name limit (rule_of x)) same rules.0
rule_at name limit (a ∷ args) (suc place) arg rules below same = rule_at name limit args place arg rules.1 (omega arith) same

is_unsigned : (name : Text) (limit : ℕ) (command : Command) (text : Text) → AreNumberRules name limit (map rule_of (args_of command))
    → PassesArg command name text → IsUnsignedIn 1 limit text
is_unsigned name limit command text rules passes =
    let rule = rule_at name limit (args_of command) passes.0 passes.1 rules passes.2 passes.3 in
    let parser : parser_of passes.1 ≡ Unsigned 1 limit = ap parser_of_value (rule passes.4.0) in
    subst (λ (p : ValueParser). Accepts passes.1.ignore_case p text) parser passes.4.1

-- ---- what holds of each value of an entry holds of the value that is read

first_holds : (Q : Text → Type 0) (values : List (Bor Text)) (text : Text) → All (λ v. Q v.now) values
    → option_map (λ v. v.now) (slice_get values 0) ≡ Some text → Q text
first_holds Q [] text all first = cc
first_holds Q (value ∷ values) text all first =
    let same : value.now ≡ text = cc in
    subst Q same (All-get_or (λ (v : Bor Text). Q v.now) (value ∷ values) 0 value (omega arith) all)

is_no_group : (command : Command) (entry : Entry) → groups_of command ≡ [] → (entry.0.now ≡ [] → ⊥) → EntryPasses command entry → entry.1.is_group ≡ true → ⊥
is_no_group command entry no_groups named passes group = elim (passes.3 group) [
  | inl empty ↦ named empty
  | inr some ↦
      let none : 0 < 0 = rw no_groups at some in
      absurd (omega arith)
]

values_pass : (command : Command) (entry : Entry) → groups_of command ≡ [] → (entry.0.now ≡ [] → ⊥) → EntryPasses command entry
    → All (λ v. PassesArg command entry.0.now v.now) entry.1.vals.items
values_pass command entry no_groups named passes = elim passes.0 [
  | inl group ↦ absurd (is_no_group command entry no_groups named passes group)
  | inr values ↦ values
]

entry_holds : (name : Text) (Q : Text → Type 0) (command : Command) (matched : MatchedArg) (text : Text) → groups_of command ≡ [] → (name ≡ [] → ⊥)
    → ((t : Text) → PassesArg command name t → Q t) → option_map (λ v. v.now) (slice_get matched.vals.items 0) ≡ Some text
    → (entry : Entry) → entry.1 ≡ matched → entry.0.now ≡ name → EntryPasses command entry → Q text
entry_holds name Q command matched text no_groups named holds first entry same key passes =
    let all = values_pass command entry no_groups (λ empty. named (sym key ∙ empty)) passes in
    let all_named : All (λ v. PassesArg command name v.now) matched.vals.items =
    subst (λ (n : Text). All (λ v. PassesArg command n v.now) matched.vals.items) key (rw same at all) in
    holds text (first_holds (PassesArg command name) matched.vals.items text all_named first)

value_holds : (name : Text) (Q : Text → Type 0) (command : Command) (found : Found) (text : Text) → ValuesPass command found → groups_of command ≡ []
    → (name ≡ [] → ⊥) → ((t : Text) → PassesArg command name t → Q t) → first_value found name ≡ Some text → Q text
value_holds name Q command found text pass no_groups named holds first = by_match (matched_of found name) refl first
  where
    by_match : (o : Option MatchedArg) → matched_of found name ≡ o → first_value found name ≡ Some text → Q text
    by_match None is first =
        let none : Option Text = None in
        let same : none ≡ Some text = rw is at first in
        cc
    by_match (Some matched) is first =
        let got = entry_by_id (EntryPasses command) found.entries.items name matched pass is in
        entry_holds name Q command matched text no_groups named holds (rw is at first) got.0 got.1 ((bytes_eq-Decides got.0.0.now name).0 got.2) got.3

-- the value of an option whose rule says so is a number within the limits
pub is_number : (name : Text) (limit : ℕ) (command : Command) (found : Found) → ValuesPass command found → groups_of command ≡ []
    → (name ≡ [] → ⊥) → AreNumberRules name limit (map rule_of (args_of command)) → IsNumber name limit (rows_of found)
is_number name limit command found pass no_groups named rules text first =
    value_holds name (IsUnsignedIn 1 limit) command found text pass no_groups named (λ t passes. is_unsigned name limit command t rules passes)
    (first_value-rows found name ∙ first)

-- ---- the number that is read

widened : (limit : ℕ) (text : Text) → IsUnsignedIn 1 limit text → IsUnsignedIn 1 18446744073709551615 text
widened limit text number =
    let fits = number.1 in
    (number.0, number.1, number.2, omega (arith, fits))

pub may_be_parsed : (t : Text) (found : Found) (name : Text) (limit : ℕ) → Some t ≡ first_value found name → IsNumber name limit (rows_of found)
    → IsUnsignedIn 1 18446744073709551615 t
may_be_parsed t found name limit read number = widened limit t (number t (sym (first_value-rows found name) ∙ sym read))

-- ---- the number that is found

pub number_is_found : (t : Text) (n : ℕ) (found : Found) (name : Text) → n ≡ number_in t → Some t ≡ first_value found name → Some n ≡ number_found name (rows_of found)
number_is_found t n found name is read = rw is (ap (option_map number_in) (read ∙ first_value-rows found name))

pub nothing_is_found : (found : Found) (name : Text) → None ≡ first_value found name → None ≡ number_found name (rows_of found)
nothing_is_found found name read = ap (option_map number_in) (read ∙ first_value-rows found name)

pub number_is_within : (t : Text) (n limit : ℕ) (found : Found) (name : Text) → n ≡ number_in t → Some t ≡ first_value found name → IsNumber name limit (rows_of found) → IsWithin limit n
number_is_within t n limit found name is read number =
    let within = number t (sym (read ∙ first_value-rows found name)) in
    rw is (within.2, within.3)
