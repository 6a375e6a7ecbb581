-- Elements as truth values, and what is made of them.
use Rattle.std.proofs.Common.{◌≡◌, ◌∙◌, ℤ, ◌+ℤ◌, pos, Bool, true, false, not, ◌&&◌, ◌||◌, [], ◌∷◌, Option, Some, None, ◌⊎◌, inl, inr, refl, ap, arith, if◌then◌else◌}
use Rattle.std.proofs.lemmas.Int.{ints}
use Rattle.mz_value.specs.Contents.{Content}
use Rattle.mz_value.specs.Contents as values
use Rattle.mz_core.specs.declared.types.Base.TheVariants as base
use Rattle.mz_operations.specs.declared.row.Arith.TheVariants as arith_row
use Rattle.mz_operations.specs.declared.row.Connective.TheVariants as connective
use Rattle.mz_operations.specs.declared.row.ScalarRow.TheVariants as row
use Rattle.mz_operations.specs.declared.row.MadeRow.TheVariants as made_row
use Rattle.mz_operations.specs.Views.{as_bool, number_of_bool}
use Rattle.mz_operations.specs.Arrays.{truth_or}
use Rattle.mz_operations.specs.Numbers.{same, connected}
use Rattle.mz_operations.specs.Values.{scalar_value, made_value}
use Rattle.mz_meaning.specs.Runs.{State, Out}
use Rattle.mz_meaning.specs.Cells.{held}
use Rattle.mz_symbol.specs.declared.types.Symbol.{Symbol}
use Rattle.mz_symbol.specs.Symbols.{symbol_value}
use Rattle.mz_symbol.specs.Runs.{Run}
use Rattle.mz_symbol.specs.Readings.{Reading, IsGiven, symbol_seen, state_of}
use Rattle.mz_symbol.proofs.ConstantLaws.{out_state}
use Rattle.mz_symbol.specs.Arguments.{truth_of, as_argument}
use Rattle.mz_symbol_rows.specs.RowValues.{row_value}
use Rattle.mz_symbol_rows.specs.OptionValues.{made_row_value}
use Rattle.mz_symbol_arrays.specs.declared.lines.walk.Walk.{Walk}
use Rattle.mz_symbol_arrays.specs.declared.lines.walk.Walk.TheVariants.{Forall, Exists, Xorall, Count}
use Rattle.mz_symbol_arrays.specs.StepsLines.{seen_as, HasSort, IsSeen, IsSeenAs, IsJoined, IsJoinedAs}
use Rattle.mz_symbol_arrays.proofs.Given.{argument_given, gives, logic_gives, ordinal_gives, sum_gives, HasTruth, plain_truth, either_truth, truth_as, deopt_absent, deopt_truth, absent_absent, absent_truth}

-- ---- elements

as_truth : (b : Bool) → as_bool (values.bool b) ≡ Some b
unfolding as_bool
as_truth b = refl

seen_truth : (w : Walk) (b : Bool) → seen_as w (values.bool b) ≡ Some b
seen_truth Forall b = truth_as true b
seen_truth Exists b = truth_as false b
seen_truth Xorall b = as_truth b
seen_truth Count b = truth_as false b

pub seen_plain : (r : Reading) (s : Run) (w : Walk) (y : Symbol) → y.base ≡ base.Bool → y.occurs ≡ None → IsSeen r s s (seen_as w) y y
seen_plain r s w y e o = record {
  same = refl;
  told = λ g x h.
      let t = plain_truth r y x e o h in
      record { truth = t.truth; seen = ap (seen_as w) t.is ∙ seen_truth w t.truth; is = h ∙ ap (λ c. Some c) t.is };
}

deopt_given : (r : Reading) (y s : Symbol) (x : Content) (u v : State) → y.base ≡ base.Bool → IsGiven r.mode → symbol_value r.term y ≡ Some x → Out (held r.mode (as_argument y.base None (made_row_value r made_row.Deopt (y ∷ [])))) u ≡ Out (symbol_seen r s) v → symbol_value r.term s ≡ truth_of (made_value made_row.Deopt (Some x ∷ []))
deopt_given r y s x u v e g h k =
    gives r (as_argument y.base None (made_row_value r made_row.Deopt (y ∷ []))) s u v g k
    ∙ ap (λ b. as_argument b None (made_row_value r made_row.Deopt (y ∷ []))) e
    ∙ ap (λ a. truth_of (made_value made_row.Deopt (a ∷ []))) (argument_given r y x g h)

there_as : (x : Content) (v : Option Content) → (x ≡ values.absent) ⊎ HasTruth x → v ≡ truth_of (made_value made_row.Deopt (Some x ∷ [])) → IsSeenAs (truth_or false) x v
there_as x v (inl a) h = record { truth = false; seen = ap (truth_or false) a; is = h ∙ ap (λ c. truth_of (made_value made_row.Deopt (Some c ∷ []))) a ∙ deopt_absent }
there_as x v (inr t) h = record { truth = t.truth; seen = ap (truth_or false) t.is ∙ truth_as false t.truth; is = h ∙ ap (λ c. truth_of (made_value made_row.Deopt (Some c ∷ []))) t.is ∙ deopt_truth t.truth }

pub there_seen : (r : Reading) (old new : Run) (y s : Symbol) → y.base ≡ base.Bool → Out (held r.mode (as_argument y.base None (made_row_value r made_row.Deopt (y ∷ [])))) (state_of r old) ≡ Out (symbol_seen r s) (state_of r new) → IsSeen r old new (truth_or false) y s
there_seen r old new y s e k = record {
  same = out_state k;
  told = λ g x h. there_as x (symbol_value r.term s) (either_truth r y x e h) (deopt_given r y s x (state_of r old) (state_of r new) e g h k);
}

absent_given : (r : Reading) (y s : Symbol) (x : Content) (u v : State) → IsGiven r.mode → symbol_value r.term y ≡ Some x → Out (held r.mode (truth_of (row_value r row.Absent (y ∷ [])))) u ≡ Out (symbol_seen r s) v → symbol_value r.term s ≡ truth_of (scalar_value row.Absent (Some x ∷ []))
absent_given r y s x u v g h k = gives r (truth_of (row_value r row.Absent (y ∷ []))) s u v g k ∙ ap (λ a. truth_of (scalar_value row.Absent (a ∷ []))) (argument_given r y x g h)

or_is : (p q : Bool) → connected connective.Or p q ≡ p || q
unfolding connected
or_is p q = refl

and_is : (p q : Bool) → connected connective.And p q ≡ p && q
unfolding connected
and_is p q = refl

xor_is : (p q : Bool) → connected connective.Xor p q ≡ not (same p q)
unfolding connected
xor_is p q = refl

bool_as : (p q : Bool) → p ≡ q → Some (values.bool p) ≡ Some (values.bool q)
bool_as p q h = ap (λ b. Some (values.bool b)) h

absent_as : (x : Content) (u v w : Option Content) → (x ≡ values.absent) ⊎ HasTruth x → u ≡ truth_of (scalar_value row.Absent (Some x ∷ [])) → v ≡ truth_of (made_value made_row.Deopt (Some x ∷ [])) → ((p q : Bool) → u ≡ Some (values.bool p) → v ≡ Some (values.bool q) → w ≡ Some (values.bool (connected connective.Or p q))) → IsSeenAs (truth_or true) x w
absent_as x u v w (inl a) h k all = record {
  truth = true;
  seen = ap (truth_or true) a;
  is = all true false (h ∙ ap (λ c. truth_of (scalar_value row.Absent (Some c ∷ []))) a ∙ absent_absent) (k ∙ ap (λ c. truth_of (made_value made_row.Deopt (Some c ∷ []))) a ∙ deopt_absent) ∙ bool_as (connected connective.Or true false) true (or_is true false);
}
absent_as x u v w (inr t) h k all = record {
  truth = t.truth;
  seen = ap (truth_or true) t.is ∙ truth_as true t.truth;
  is = all false t.truth (h ∙ ap (λ c. truth_of (scalar_value row.Absent (Some c ∷ []))) t.is ∙ absent_truth t.truth) (k ∙ ap (λ c. truth_of (made_value made_row.Deopt (Some c ∷ []))) t.is ∙ deopt_truth t.truth) ∙ bool_as (connected connective.Or false t.truth) t.truth (or_is false t.truth);
}

pub absent_seen : (r : Reading) (old m1 m2 new : Run) (y gone there s : Symbol) → y.base ≡ base.Bool → Out (held r.mode (truth_of (row_value r row.Absent (y ∷ [])))) (state_of r old) ≡ Out (symbol_seen r gone) (state_of r m1) → Out (held r.mode (as_argument y.base None (made_row_value r made_row.Deopt (y ∷ [])))) (state_of r m1) ≡ Out (symbol_seen r there) (state_of r m2) → Out (held r.mode (truth_of (row_value r (row.Logic connective.Or) (gone ∷ there ∷ [])))) (state_of r m2) ≡ Out (symbol_seen r s) (state_of r new) → IsSeen r old new (truth_or true) y s
absent_seen r old m1 m2 new y gone there s e a b c = record {
  same = out_state a ∙ out_state b ∙ out_state c;
  told = λ g x h.
      absent_as x (symbol_value r.term gone) (symbol_value r.term there) (symbol_value r.term s) (either_truth r y x e h)
      (absent_given r y gone x (state_of r old) (state_of r m1) g h a) (deopt_given r y there x (state_of r m1) (state_of r m2) e g h b)
      (λ p q u v. logic_gives r connective.Or gone there s p q (state_of r m2) (state_of r new) g u v c);
}

-- ---- with one more

forall_as : (a : Content) (b : Bool) (v : Option Content) → HasSort Forall a → ((p : Bool) → a ≡ values.bool p → v ≡ Some (values.bool (connected connective.And p b))) → IsJoinedAs Forall a b v
forall_as (values.bool p) b v s h = record { value = values.bool (p && b); joins = refl; sort = tt; is = h p refl ∙ bool_as (connected connective.And p b) (p && b) (and_is p b) }
forall_as _ b v s h = absurd s

exists_as : (a : Content) (b : Bool) (v : Option Content) → HasSort Exists a → ((p : Bool) → a ≡ values.bool p → v ≡ Some (values.bool (connected connective.Or p b))) → IsJoinedAs Exists a b v
exists_as (values.bool p) b v s h = record { value = values.bool (p || b); joins = refl; sort = tt; is = h p refl ∙ bool_as (connected connective.Or p b) (p || b) (or_is p b) }
exists_as _ b v s h = absurd s

xorall_as : (a : Content) (b : Bool) (v : Option Content) → HasSort Xorall a → ((p : Bool) → a ≡ values.bool p → v ≡ Some (values.bool (connected connective.Xor p b))) → IsJoinedAs Xorall a b v
xorall_as (values.bool p) b v s h = record { value = values.bool (not (same p b)); joins = refl; sort = tt; is = h p refl ∙ bool_as (connected connective.Xor p b) (not (same p b)) (xor_is p b) }
xorall_as _ b v s h = absurd s

one_more : (n : ℤ) (b : Bool) → n +ℤ number_of_bool b ≡ (if b then n +ℤ pos 1 else n)
one_more n true = refl
one_more n false = omega (arith, ints)

count_as : (a : Content) (b : Bool) (v : Option Content) → HasSort Count a → ((n : ℤ) → a ≡ values.int n → v ≡ Some (values.int (n +ℤ number_of_bool b))) → IsJoinedAs Count a b v
count_as (values.int n) b v s h = record { value = values.int (if b then n +ℤ pos 1 else n); joins = refl; sort = tt; is = h n refl ∙ ap (λ m. Some (values.int m)) (one_more n b) }
count_as _ b v s h = absurd s

pub forall_joined : (r : Reading) (old new : Run) (acc y s : Symbol) → Out (held r.mode (truth_of (row_value r (row.Logic connective.And) (acc ∷ y ∷ [])))) (state_of r old) ≡ Out (symbol_seen r s) (state_of r new) → IsJoined r old new Forall acc y s
forall_joined r old new acc y s c = record {
  same = out_state c;
  told = λ g a b sort u v. forall_as a b (symbol_value r.term s) sort (λ p e. logic_gives r connective.And acc y s p b (state_of r old) (state_of r new) g (u ∙ ap (λ x. Some x) e) v c);
}

pub exists_joined : (r : Reading) (old new : Run) (acc y s : Symbol) → Out (held r.mode (truth_of (row_value r (row.Logic connective.Or) (acc ∷ y ∷ [])))) (state_of r old) ≡ Out (symbol_seen r s) (state_of r new) → IsJoined r old new Exists acc y s
exists_joined r old new acc y s c = record {
  same = out_state c;
  told = λ g a b sort u v. exists_as a b (symbol_value r.term s) sort (λ p e. logic_gives r connective.Or acc y s p b (state_of r old) (state_of r new) g (u ∙ ap (λ x. Some x) e) v c);
}

pub xorall_joined : (r : Reading) (old new : Run) (acc y s : Symbol) → Out (held r.mode (truth_of (row_value r (row.Logic connective.Xor) (acc ∷ y ∷ [])))) (state_of r old) ≡ Out (symbol_seen r s) (state_of r new) → IsJoined r old new Xorall acc y s
xorall_joined r old new acc y s c = record {
  same = out_state c;
  told = λ g a b sort u v. xorall_as a b (symbol_value r.term s) sort (λ p e. logic_gives r connective.Xor acc y s p b (state_of r old) (state_of r new) g (u ∙ ap (λ x. Some x) e) v c);
}

pub count_joined : (r : Reading) (old mid new : Run) (acc y bit s : Symbol) → Out (held r.mode (row_value r row.Ordinal (y ∷ []))) (state_of r old) ≡ Out (symbol_seen r bit) (state_of r mid) → Out (held r.mode (row_value r (row.Arith arith_row.Add) (acc ∷ bit ∷ []))) (state_of r mid) ≡ Out (symbol_seen r s) (state_of r new) → IsJoined r old new Count acc y s
count_joined r old mid new acc y bit s o c = record {
  same = out_state o ∙ out_state c;
  told = λ g a b sort u v. count_as a b (symbol_value r.term s) sort (λ n e. sum_gives r acc bit s n (number_of_bool b) (state_of r mid) (state_of r new) g (u ∙ ap (λ x. Some x) e) (ordinal_gives r y bit b (state_of r old) (state_of r mid) g v o) c);
}
