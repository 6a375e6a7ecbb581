-- One more name in hand: its slot is the next, so it is found beside those before it.
use Rattle.std.proofs.Common.{◌≡◌, ◌∙◌, ℕ, suc, ◌+◌, Bool, true, false, List, [], ◌∷◌, ◌++◌, length, map, nat_eq, refl, sym, ap, subst, arith, if◌then◌else◌}
use Rattle.std.proofs.Math.Path.{fun_ext}
use Rattle.std.proofs.lemmas.Bool.{eqb-true}
use Rattle.std.proofs.lemmas.List.{length-map}
use Rattle.mz_meaning.specs.Cells.{bind}
use Rattle.mz_meaning.specs.Walk.{names_env}
use Rattle.mz_symbol.specs.Readings.{Reading}
use Rattle.mz_eval_cells.specs.declared.types.Known.{Known}
use Rattle.mz_eval_cells.specs.Views.{seen}
use Rattle.mz_eval_scopes.specs.Views.{env_cells_by}
use Rattle.mz_model_state.specs.Hands as hands
use Rattle.mz_model_state.specs.Hands.{names_at, SlotsFrom}
use Rattle.mz_model_names.specs.declared.types.HeldName.{HeldName}
use Rattle.mz_model_names.specs.Named.{held_name}
use Rattle.mz_model.specs.declared.types.Names.{Names}
use Rattle.mz_model.specs.Walks.{names_of, AreReadable}

-- two tests of which one holds at most
either_first : {A : Type 0} (s t : Bool) (a b c : A) → (s ≡ true → t ≡ true → ⊥) → (if s then a else (if t then b else c)) ≡ (if t then b else (if s then a else c))
either_first true true a b c h = absurd (h refl refl)
either_first true false a b c h = refl
either_first false true a b c h = refl
either_first false false a b c h = refl

apart : (k m n j size : ℕ) → n ≡ j + suc size → m ≡ j → nat_eq k n ≡ true → nat_eq k m ≡ true → ⊥
apart k m n j size last first p q =
    let is_last : k ≡ n = eqb-true k n p in
    let is_first : k ≡ m = eqb-true k m q in
    omega (arith, last, first, is_last, is_first)

-- the last name may be bound first
bound_last : (r : Reading) (ns : List hands.HeldName) (n : hands.HeldName) (j k : ℕ) → SlotsFrom j ns → n.slot ≡ j + length ns → bind n.slot (n.cell r) (names_env (names_at r ns)) k ≡ names_env (names_at r (ns ++ n ∷ [])) k
bound_last r [] n j k from next = refl
bound_last r (x ∷ ns) n j k from next =
    let after : n.slot ≡ suc j + length ns = omega (arith, next) in
    either_first (nat_eq k n.slot) (nat_eq k x.slot) (n.cell r) (x.cell r) (names_env (names_at r ns) k) (apart k x.slot n.slot j (length ns) next from.0)
    ∙ ap (λ c. if nat_eq k x.slot then x.cell r else c) (bound_last r ns n (suc j) k from.1 after)

one_more_slot : (ns : List hands.HeldName) (n : hands.HeldName) (j : ℕ) → SlotsFrom j ns → n.slot ≡ j + length ns → SlotsFrom j (ns ++ n ∷ [])
one_more_slot [] n j from next = (omega (arith, next), tt)
one_more_slot (x ∷ ns) n j from next = (from.0, one_more_slot ns n (suc j) from.1 (omega (arith, next)))

-- the names in hand with one more
pub with_one : (hs : List HeldName) (h : HeldName) → map held_name (hs ++ h ∷ []) ≡ map held_name hs ++ held_name h ∷ []
with_one [] h = refl
with_one (x ∷ hs) h = ap (λ ns. held_name x ∷ ns) (with_one hs h)

pub still_readable : (old new : Names) (h : HeldName) (cell : Known) → AreReadable old → h.label.slot ≡ length old.list.items → ((r : Reading) → seen r cell ≡ seen r h.cell) → ((r : Reading) (k : ℕ) → env_cells_by (seen r) new.env k ≡ bind h.label.slot (seen r cell) (env_cells_by (seen r) old.env) k) → new.list.items ≡ old.list.items ++ h ∷ [] → AreReadable new
still_readable old new h cell readable slot same bound is =
    let next : h.label.slot ≡ 0 + length (names_of old) = omega (arith, slot, length-map old.list.items held_name) in
    let names : names_of old ++ held_name h ∷ [] ≡ names_of new = sym (with_one old.list.items h) ∙ ap (λ hs. map held_name hs) (sym is) in
    record {
      cells = λ r. fun_ext (λ k.
          bound r k
          ∙ ap (λ c. bind h.label.slot c (env_cells_by (seen r) old.env) k) (same r)
          ∙ ap (λ env. bind h.label.slot (seen r h.cell) env k) (readable.cells r)
          ∙ bound_last r (names_of old) (held_name h) 0 k readable.slots next
          ∙ ap (λ ns. names_env (names_at r ns) k) names);
      slots = subst (SlotsFrom 0) names (one_more_slot (names_of old) (held_name h) 0 readable.slots next);
    }
