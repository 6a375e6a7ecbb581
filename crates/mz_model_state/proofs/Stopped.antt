-- Where the walk stops under each reading, some walk stops: that in which the values of all parts are 0.
use Rattle.std.proofs.Common.{◌≡◌, ◌∙◌, ℕ, zero, suc, ◌+◌, List, [], ◌∷◌, map, Option, Some, None, ap, arith}
use Rattle.mz_base.specs.declared.fault.Fault.{Fault}
use Rattle.mz_value.specs.Contents.{Content, contents}
use Rattle.mz_value.specs.Contents as values
use Rattle.mz_core.specs.Program.{PlainProgram}
use Rattle.mz_arena.specs.Numbering.{by_id}
use Rattle.mz_arena.specs.Values.{Values}
use Rattle.mz_meaning.specs.Domains.{Domain, Domains, Fixed, Scalar, Places}
use Rattle.mz_meaning.specs.Walk.{Limits, Assignment}
use Rattle.mz_instance.specs.Parts.{next}
use Rattle.mz_model_meaning.specs.Decoded.{Named, after_domains, cell_content, cell_contents, domains_in, TellsName, Tells, Chooses}
use Rattle.mz_model_meaning.specs.Refusals.{StopsOnce}
use Rattle.mz_symbol.specs.Runs.{Run, taken}
use Rattle.mz_symbol.specs.Readings.{no_values, reading}
use Rattle.mz_symbol.proofs.ReadingLaws.{choices_read}
use Rattle.mz_model_state.specs.Hands.{HeldName, named_as, kind_domains, SlotsFrom, IsStopped}
use Rattle.mz_model_state.proofs.Names.{all_assigned}

-- ---- the choices that the values of parts are

abbrev chosen : List Domain → ℕ → Values → ℕ → Content
chosen [] k y i = values.absent
chosen (d ∷ ds) k y zero = cell_content d k y
chosen (d ∷ ds) k y (suc i) = chosen ds (next d.opt k) y i

chooses : (ds : List Domain) (j k : ℕ) (y : Values) (c : ℕ → Content) → ((i : ℕ) → c (j + i) ≡ chosen ds k y i) → Chooses ds j k y c
chooses [] j k y c are = tt
chooses (d ∷ ds) j k y c are = (ap c (omega arith) ∙ are 0, chooses ds (suc j) (next d.opt k) y c (λ i. ap c (omega arith) ∙ are (suc i)))

-- ---- the assignment that they are

abbrev domains_value : Domains → ℕ → Values → Option Content
domains_value Fixed k x = None
domains_value (Scalar d) k x = Some (cell_content d k x)
domains_value (Places ix ds) k x = Some (values.array ix (contents (cell_contents ds k x)))

abbrev assigned : List Named → ℕ → Values → Assignment
assigned [] k x i = None
assigned (n ∷ ns) k x zero = domains_value n.domains k x
assigned (n ∷ ns) k x (suc i) = assigned ns (after_domains (domains_in n.domains) k) x i

name_told : (slot : ℕ) (ds : Domains) (k : ℕ) (x : Values) (a : Assignment) → a slot ≡ domains_value ds k x → TellsName slot ds k x a
name_told slot Fixed k x a is = tt
name_told slot (Scalar d) k x a is = is
name_told slot (Places ix ds) k x a is = is

names_told : (ns : List HeldName) (j k : ℕ) (x : Values) (a : Assignment) → SlotsFrom j ns → ((i : ℕ) → a (j + i) ≡ assigned (map named_as ns) k x i) → Tells (map named_as ns) k x a
names_told [] j k x a slots are = tt
names_told (n ∷ ns) j k x a slots are = (
  name_told n.slot (kind_domains n.kind) k x a (ap a (omega (arith, slots.0)) ∙ are 0),
  names_told ns (suc j) (after_domains (domains_in (kind_domains n.kind)) k) x a slots.1 (λ i. ap a (omega arith) ∙ are (suc i)),
)

pub stops : (l : Limits) (p : PlainProgram) (f : Fault) (s : Run) (ns : List HeldName) → IsStopped l p f s ns → StopsOnce l p f
stops l p f s ns at =
    let a = assigned (map named_as ns) 0 no_values in
    let c = chosen (taken s) 0 no_values in
    let told = names_told ns 0 0 no_values a at.slots (λ i. ap a (omega arith)) in
    let reads = choices_read s c no_values no_values at.run (chooses (taken s) 0 0 no_values c (λ i. ap c (omega arith))) in
    record {
      assignment = a;
      choices = c;
      stops = at.stops (reading c (by_id s.arena no_values no_values) s) a reads (λ _. all_assigned s ns a no_values no_values at.run at.vars told);
    }
