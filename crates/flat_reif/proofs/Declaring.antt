-- The model's variables and arrays.
use Rattle.std.proofs.Common.{◌≡◌, ℕ, true, List, [], length, Option, Some, option_map, slice_get, refl, sym, ap, subst, ◌∙◌}
use Rattle.mz_arena.specs.declared.node.NodeKind.{NodeKind}
use Rattle.mz_arena.specs.declared.node.NodeKind.TheVariants as kinds
use Rattle.mz_arena.specs.Entries.{Entry, at, is_free}
use Rattle.mz_arena.specs.Arenas.{IsArena}
use Rattle.fz_program.specs.declared.program.Arg.{Arg}
use Rattle.fz_program.specs.Arguments.{Plain, var, one, Argument, plain_of}
use Rattle.fz_program.specs.Values.{Values}
use Rattle.fz_program.specs.Flat.{ArrayItem, Variable, Program, FlatSolves}
use Rattle.fz_build.specs.Build.{empty, with_array, with_variable}
use Rattle.fz_build.specs.Growth.{Declares}
use Rattle.flat_reif.specs.States.{State, IsState, plain_args, put_at, free_domain}
use Rattle.flat_reif.specs.Lists.{is_front}
use Rattle.flat_reif.specs.Roots.{MayStand, IsDeclared, begun, with_prog}
use Rattle.flat_reif.proofs.Choices.{own_state}
use Rattle.flat_reif.proofs.Choosing.{domain, declared_own, same_upper, alone}
use Rattle.flat_reif.proofs.Posting.{posted_state}

none_at : {A : Type 0} (id : ℕ) (p : Plain) → at [] id ≡ Some p → A
none_at id p h = absurd (cc)

pub begun_state : (es : List Entry) → IsArena es → IsState (begun es)
begun_state es a = record {
  arena = a;
  places = λ id p l. none_at id p l;
  suits = λ id p l. none_at id p l;
  ranged = λ v f m id e d p k free over l. none_at id p l;
  right = λ v f d m id p l. none_at id p l;
}

pub begun_given : (es : List Entry) (p : Program) (args : List (Option Arg)) → p ≡ empty → args ≡ [] → IsArena es → IsState (record { es = es; prog = p; args = plain_args args })
begun_given es p args e n a = subst (λ q. IsState (record { es = es; prog = q; args = plain_args args })) (sym e) (subst (λ xs. IsState (record { es = es; prog = empty; args = plain_args xs })) (sym n) (begun_state es a))

front_free : (k : NodeKind) → is_front k ≡ true → is_free k ≡ true
front_free kinds.Var h = refl
front_free kinds.SetVar h = refl
front_free _ h = absurd (cc)

same_set_of : (es : List Entry) (id : ℕ) (c : Entry) → slice_get es id ≡ Some c → option_map (λ (x : Entry). x.set) (slice_get es id) ≡ Some c.set
same_set_of es id c h = ap (option_map (λ (x : Entry). x.set)) h

pub front_declared : (s : State) (id : ℕ) (v : Variable) → IsState s → MayStand s id v.domain → (q : Program) (out : Argument) (args : List (Option Plain)) → q ≡ with_variable s.prog v → out ≡ one (var (length s.prog.vars)) → Declares s.prog q v.domain out → args ≡ put_at s.args id (plain_of out) → IsDeclared s (record { es = s.es; prog = q; args = args }) id v
front_declared s id v g m q out args added place declares put =
    let free : is_free m.entry.node.kind ≡ true = front_free m.entry.node.kind m.front in
    let same : v.domain ≡ domain s id m.entry g m.is m.none free = m.written ∙ ap (free_domain m.entry.node.kind m.entry.node.c) (sym (same_upper s id m.entry g m.is m.none free m.const.set (same_set_of s.es m.entry.node.a m.const m.over))) in
    let declared : Declares s.prog q (domain s id m.entry g m.is m.none free) (one (plain_of out)) = subst (Declares s.prog q (domain s id m.entry g m.is m.none free)) (alone s id m.entry g m.is m.none free out declares.typed.place declares.typed.is) (subst (λ d. Declares s.prog q d out) same declares) in
    record {
      same = refl;
      prog = added;
      args = put ∙ ap (λ (a : Argument). put_at s.args id (plain_of a)) place;
      state = subst (λ xs. IsState (record { es = s.es; prog = q; args = xs })) (sym put) (own_state s q id (plain_of out) g (declared_own s id m.entry g m.is m.none free q (plain_of out) declared));
    }

array_solves : (p : Program) (a : ArrayItem) (f : Values) → FlatSolves (with_array p a) f → FlatSolves p f
array_solves p a f h = record { domains = h.domains; rows = h.rows }

pub array_state : (s : State) (a : ArrayItem) → IsState s → IsState (with_prog s (with_array s.prog a))
array_state s a g = posted_state s (with_array s.prog a) g refl (array_solves s.prog a)
