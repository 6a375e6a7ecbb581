-- Symbols that stand for others, with a node of their own for the value.
use Rattle.std.proofs.Common.{◌≡◌, ◌∙◌, ℕ, Bool, true, false, Option, Some, None, IsSome, refl, sym, ap, subst, if◌then◌else◌}
use Rattle.mz_value.specs.Contents.{Content}
use Rattle.mz_value.specs.Contents as values
use Rattle.mz_core.specs.declared.types.Base.{Base}
use Rattle.mz_arena.specs.Values.{Term, is_true}
use Rattle.mz_symbol.specs.declared.types.Symbol.{Symbol}
use Rattle.mz_symbol.specs.Symbols.{value_by, value_at, symbol_value, IsOccurrence, IsItem}
use Rattle.mz_symbol.specs.Runs.{Run}
use Rattle.mz_symbol.specs.Readings.{Reading, Reads}
use Rattle.mz_symbol_rows.specs.OptionValues.{IsWholeOf}
use Rattle.mz_symbol_rows.specs.StepsOptions.{symbol_of, whole_term}
use Rattle.mz_symbol_rows.proofs.MakingLaws.{whole_kept}

pub same_whole : (s : Run) (a : Symbol) → IsWholeOf s a a
same_whole s a = record { base = refl; occurs = refl; value = λ r reads some. refl }

there : (v w : Option Content) → ((c : Content) → v ≡ Some c → v ≡ w) → IsSome v → w ≡ v
there None w same some = absurd (cc)
there (Some c) w same some = sym (same c refl)

pub whole_made : (s : Run) (a x : Symbol) (id : ℕ) → x ≡ symbol_of a.base a.occurs id → ((r : Reading) → Reads r s → whole_term a.base (r.term a.term) ≡ r.term id) → IsWholeOf s a x
whole_made s a x id is node = subst (λ (x : Symbol). IsWholeOf s a x) (sym is) (record {
  base = refl;
  occurs = refl;
  value = λ r reads some.
      ap (value_by a.base) (sym (node r reads))
      ∙ there (value_by a.base (r.term a.term)) (value_by a.base (whole_term a.base (r.term a.term))) (whole_kept a.base (r.term a.term)) some;
})

-- ---- what such a symbol stands for

pub whole_later : (old new : Run) (a x : Symbol) → ((r : Reading) → Reads r new → Reads r old) → IsWholeOf old a x → IsWholeOf new a x
whole_later old new a x back h = record { base = h.base; occurs = h.occurs; value = λ r reads. h.value r (back r reads) }

kept_at : (t : ℕ → Term) (b : Base) (o : Option ℕ) (x y : ℕ) → (IsSome (value_by b (t x)) → value_by b (t y) ≡ value_by b (t x)) → IsSome (value_at t b o x) → value_at t b o y ≡ value_at t b o x
kept_at t b None x y same some = same some
kept_at t b (Some o) x y same some = under (is_true (t o)) some
  where
    under : (p : Bool) → IsSome (if p then value_by b (t x) else Some values.absent) → (if p then value_by b (t y) else Some values.absent) ≡ (if p then value_by b (t x) else Some values.absent)
    under true some = same some
    under false some = refl

-- its value is the other's, where that is there
pub whole_value : (s : Run) (a x : Symbol) (r : Reading) → IsWholeOf s a x → Reads r s → IsSome (symbol_value r.term a) → symbol_value r.term x ≡ symbol_value r.term a
whole_value s a x r h reads some =
    ap (λ (b : Base). value_at r.term b x.occurs x.term) h.base
    ∙ ap (λ o. value_at r.term a.base o x.term) h.occurs
    ∙ kept_at r.term a.base a.occurs a.term x.term (h.value r reads) some

-- an element's value is there
pub item_value : (t : ℕ → Term) (a : Symbol) → IsItem t a → IsSome (symbol_value t a)
item_value t a item = at a.occurs
  where
    under : (p : Bool) → IsSome (if p then value_by a.base (t a.term) else Some values.absent)
    under true = item.value
    under false = refl

    at : (o : Option ℕ) → IsSome (value_at t a.base o a.term)
    at None = item.value
    at (Some o) = under (is_true (t o))

pub whole_item : (s : Run) (a x : Symbol) (r : Reading) → IsWholeOf s a x → Reads r s → IsItem r.term a → IsItem r.term x
whole_item s a x r h reads item = record {
  value = subst (λ (b : Base). IsSome (value_by b (r.term x.term))) (sym h.base) (subst (λ (v : Option Content). IsSome v) (sym (h.value r reads item.value)) item.value);
  occurs = subst (λ (o : Option ℕ). IsOccurrence r.term o) (sym h.occurs) item.occurs;
}
