-- What `clap` finds in the words of a command, and where it refuses them.
use Rattle.std.proofs.Common.{◌≡◌, ◌⊎◌, ap, Bool, List, [], ◌∷◌, Option, Some, None, map, refl, sym, subst, true, false, inl, inr, arith}
use Rattle.std.specs.Prelude.{Err, ◌&&◌, if◌then◌else◌}
use Rattle.std.proofs.lemmas.Bool.{not-true}
use Rattle.clap.specs.Built.{BuildsOrBreaks, is_broken}
use Rattle.clap.specs.Facts.{IsParsed, groups_of, args_of}
use Rattle.clap.specs.Faults.{fault_of}
use Rattle.clap.specs.Kinds.{IsAmong, Kinds}
use Rattle.clap.specs.Matches.{found_of, has_subcommand}
use Rattle.clap.specs.Simple.{App, app_of, built, is_buildable, matches_of}
use Rattle.clap.specs.Walk.{Row, Text, is_empty, rule_of}
use Rattle.clap.specs.declared.builder.command.Command.{Command}
use Rattle.clap.specs.declared.builder.command.Command.TheViews.{out-Command}
use Rattle.clap.specs.declared.error.kind.ErrorKind.{ErrorKind}
use Rattle.clap.specs.declared.error.kind.ErrorKind.TheVariants.{OutOfMemory}
use Rattle.clap.specs.declared.parser.matches.ArgMatches.{ArgMatches}
use Rattle.mz_words.proofs.Numbers.{is_number}
use Rattle.mz_words.specs.Commands.{has_any, rows_found}
use Rattle.mz_words.specs.Parsed.{AreNumberRules, AreNumbers, IsExact, refusal_of, rows_in}
use Rattle.mz_words.specs.Found.{Answers}
use Rattle.mz_words.specs.declared.command.error.WordsError.{WordsError}
use Rattle.mz_words.specs.declared.command.error.WordsError.TheVariants.{Usage, Memory}

-- ---- refused or not

taken_by : (kinds : Kinds) (rows all : List Row) → kinds ≡ [] → rows ≡ all → (if has_any kinds then None else Some all) ≡ Some rows
taken_by [] rows all none same = ap Some (sym same)
taken_by (k ∷ kinds) rows all none same = cc

refused_by : (k : ErrorKind) (kinds : Kinds) (all : List Row) → IsAmong k kinds → (if has_any kinds then None else Some all) ≡ None
refused_by k [] all among = absurd among
refused_by k (x ∷ kinds) all among = refl

pub is_found : (command : App) (words : List Text) (rows : List Row) → fault_of command words ≡ [] → rows ≡ matches_of command words
    → rows_found command words ≡ Some rows
unfolding rows_found
is_found command words rows none same = taken_by (fault_of command words) rows (matches_of command words) none same

is_refused : (command : App) (words : List Text) (k : ErrorKind) → IsAmong k (fault_of command words) → rows_found command words ≡ None
unfolding rows_found
is_refused command words k among = refused_by k (fault_of command words) (matches_of command words) among

error_answers : (found : Option (List Row)) (error : WordsError) → found ≡ None → Answers rows_in found (Err error)
error_answers found Usage none = none
error_answers found Memory none = tt

pub refusal_answers : (command : App) (words : List Text) (k : ErrorKind) → (k ≡ OutOfMemory) ⊎ IsAmong k (fault_of command words)
    → Answers rows_in (rows_found command words) (Err (refusal_of k))
refusal_answers command words k (inl memory) = rw memory tt
refusal_answers command words k (inr among) = error_answers (rows_found command words) (refusal_of k) (is_refused command words k among)

-- ---- the command after a parse is the one before it, built or not

after_parse : (P : App → Type 0) (old new : App) → is_buildable old ≡ true → (new ≡ old) ⊎ (is_buildable old ≡ true → new ≡ built old)
    → P old → P (built old) → P new
after_parse P old new buildable (inl same) holds holds_built = subst P (sym same) holds
after_parse P old new buildable (inr made) holds holds_built = subst P (sym (made buildable)) holds_built

left_of : (x y : Bool) → (x && y) ≡ true → x ≡ true
left_of true y both = refl
left_of false y both = both

right_of : (x y : Bool) → (x && y) ≡ true → y ≡ true
right_of true y both = both
right_of false y both = cc

nil_of : {X : Type 0} (xs : List X) → is_empty xs ≡ true → xs ≡ []
nil_of [] empty = refl
nil_of (x ∷ xs) empty = absurd (grind arith)

no_groups : (command : Command) → (app_of command).top.is_plain ≡ true → groups_of command ≡ []
no_groups command plain = nil_of (groups_of command) (left_of _ _ plain)

no_globals : (command : Command) → (app_of command).top.is_plain ≡ true → (out-Command command).has_globals ≡ false
no_globals command plain = not-true _ (left_of _ _ (right_of _ _ (right_of _ _ plain)))

pub are_numbers : (old new : Command) (matches : ArgMatches) → IsExact (app_of old)
    → ((out-Command new).has_globals ≡ false → IsParsed new (found_of matches) (has_subcommand matches))
    → (is_broken new ≡ true → ⊥) → BuildsOrBreaks old new → AreNumbers (app_of old) (rows_in matches)
are_numbers old new matches exact parsed whole builds name limit takes =
    let after : (app_of new ≡ app_of old) ⊎ (is_buildable (app_of old) ≡ true → app_of new ≡ built (app_of old)) = elim builds [ inl broken ↦ absurd (whole broken) | inr kept ↦ kept.2 ] in
    let plain : (app_of new).top.is_plain ≡ true = after_parse (λ (a : App). a.top.is_plain ≡ true) (app_of old) (app_of new) exact.buildable after exact.plain exact.plain_built in
    let rules : AreNumberRules name limit (map rule_of (args_of new)) = after_parse (λ (a : App). AreNumberRules name limit a.top.rules) (app_of old) (app_of new) exact.buildable after takes.rules takes.rules_built in
    is_number name limit new (found_of matches) (parsed (no_globals new plain)).values (no_groups new plain) takes.named rules
