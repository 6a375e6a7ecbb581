-- The evaluation of an expression whose places are all of a kind stops at such places, form by form.
use Rattle.std.proofs.Common.{ℕ, zero, suc, pos, Bool, true, false, List, [], ◌∷◌, ◌+◌, ◌++◌, Option, Some, None, slice_get}
use Rattle.std.specs.List.{AllByRecursion as AllBy}
use Rattle.mz_base.specs.declared.fault.Span.{Span}
use Rattle.mz_base.specs.declared.kind.Kind.TheVariants as kind
use Rattle.mz_core.specs.declared.types.Base.{Base}
use Rattle.mz_core.specs.Types.{PlainType}
use Rattle.mz_core.specs.Coercions.{PathLink}
use Rattle.mz_core.specs.Program.{Function}
use Rattle.mz_core.specs.Tree.{Tree, Layer, Gen, Decl, Item, declares, constrains, layer, shape_of, place_of, type_of, inner_tree, root_coercions}
use Rattle.mz_core.specs.Tree as tree
use Rattle.mz_operations.specs.declared.row.Row.{Row}
use Rattle.mz_globals.specs.declared.global.Global.{Global}
use Rattle.mz_meaning.specs.Cells.{Cell, Env, Mode, Test, Settled, Open, test_of, bind, undefined, set_in, length_of, or_zero, guarded, both_sure}
use Rattle.mz_meaning.specs.Operations as operations
use Rattle.mz_meaning.specs.Globals as globals
use Rattle.mz_meaning.specs.Arrays as arrays
use Rattle.mz_meaning.specs.Arrays.{Want}
use Rattle.mz_meaning.specs.Contexts.{Context, Untested, Positive, Other, elsewhere, within_links}
use Rattle.mz_meaning.specs.Chains.{Operator, Innermost, chained, same_level, operand_base, before, first_in, right_in}
use Rattle.mz_meaning.specs.Forms as forms
use Rattle.mz_meaning.specs.Forms.{World, Eval}
use Rattle.mz_meaning.specs.Comprehensions as comps
use Rattle.mz_meaning.specs.Lets as lets
use Rattle.mz_meaning.specs.Calls as calls
use Rattle.mz_meaning.specs.Evaluation.{node, eval}
use Rattle.mz_meaning_laws.proofs.Parts.{OfSome, found_all, IsPlaced, ArePlaced, IsPlacedMaybe, IsPlacedPair, IsPlacedGen, IsPlacedDecl, IsPlacedItem, IsPlacedFunction, IsPlacedLayer, placed_layer, place_placed, inner_placed}
use Rattle.mz_meaning_laws.proofs.Operators.{IsPlacedOperator, IsPlacedInnermost, chained_placed}
use Rattle.mz_meaning_laws.proofs.Stopping.{StopsThere, GivesThere, then_there, with_there, gives_there, both_there, give_there, given_there, stop_there, spend_there, loop_there, loop_anyway, loop_kept, when_there, weigh_there, row_cell_there, global_cell_there, table_cell_there, branch_cell_there, contiguous_there, fitted_there, chosen_there}

module _ (P : Span → Type 0) where
  -- ---- nodes

  done_there : (w : World) (at : Span) (c : Cell) → P at → StopsThere P (forms.done w at c)
  done_there w at c p = then_there P (spend_there P w.budget at 1 p) (λ u. give_there P c)

  coerced_there : (w : World) (at : Span) (ls : List PathLink) (c : Cell) → P at → StopsThere P (forms.coerced_by w at ls c)
  coerced_there w at ls c p = loop_anyway P (forms.coerced_once w at) (λ acc l. then_there P (spend_there P w.budget at _ p) (λ u. give_there P _)) c ls

  operated_by_there : (w : World) (at : Span) (t : PlainType) (cs : List Cell) (r : Option Row) → P at → StopsThere P (forms.operated_by w at t cs r)
  operated_by_there w at t cs None p = done_there w at undefined p
  operated_by_there w at t cs (Some r) p = then_there P (spend_there P w.budget at (1 + operations.row_cost r cs) p) (λ u. row_cell_there P w.mode w.cases r t at cs p)

  global_by_there : (w : World) (at : Span) (cs : List Cell) (g : Option Global) → P at → StopsThere P (forms.global_by w at cs g)
  global_by_there w at cs None p = done_there w at undefined p
  global_by_there w at cs (Some g) p = then_there P (spend_there P w.budget at (1 + globals.call_cost g cs) p) (λ u. global_cell_there P w.mode g at cs p)

  row_or_global_there : (w : World) (at : Span) (t : PlainType) (cs : List Cell) (g : Option Global) (r : Option Row) → P at → StopsThere P (forms.row_or_global w at t cs g r)
  row_or_global_there w at t cs g None p = global_by_there w at cs g p
  row_or_global_there w at t cs g (Some r) p = operated_by_there w at t cs (Some r) p

  operated_there : (w : World) (at : Span) (t : PlainType) (n : ℕ) (b : Base) (cs : List Cell) → P at → StopsThere P (forms.operated w at t n b cs)
  operated_there w at t n b cs p = then_there P (operated_by_there w at t cs (operations.row_at n b) p) (λ c. give_there P _)

  -- what evaluates such trees so
  pub record StopsInTrees (go : Eval) : Type 0 where
    pub by : (ctx : Context) (e : Tree) (env : Env) → IsPlaced P e → StopsThere P (go ctx e env)

  parts_there : (go : Eval) → StopsInTrees go → (ctx : Context) (es : List Tree) (env : Env) → ArePlaced P es → StopsThere P (forms.parts go ctx es env)
  parts_there go g ctx es env h = loop_there P (IsPlaced P) (forms.part go ctx env) (λ acc e k. then_there P (g.by ctx e env k) (λ c. give_there P _)) [] es h

  -- ---- chains

  operators_there : (w : World) (go : Eval) → StopsInTrees go → (ctx : Context) (env : Env) (at : Span) (left : Cell) (os : List Operator) → P at → AllBy (IsPlacedOperator P) os → StopsThere P (forms.operators w go ctx env at left os)
  operators_there w go g ctx env at left [] p h = give_there P left
  operators_there w go g ctx env at left (o ∷ os) p h =
      then_there P (coerced_there w at o.step.left left p) (λ a. then_there P (g.by (right_in (before ctx os) o.step) o.step.operand env h.0.1)
      (λ c. then_there P (coerced_there w (forms.operand_place o.step) o.step.right c (place_placed P o.step.operand h.0.1))
      (λ b. then_there P (operated_there w o.at o.step.ty o.step.row (operand_base o.step) (a ∷ b ∷ []) h.0.0) (λ next. operators_there w go g ctx env o.at next os h.0.0 h.1))))

  pub record IsPlacedAppended (x : forms.Appended) : Type 0 where
    pub lefts : AllBy (λ l. IsPlacedOperator P l.0) x.lefts
    pub place : P x.place

  append_operand_there : (w : World) (go : Eval) → StopsInTrees go → (ctx : Context) (env : Env) (x : forms.Appended) (o : Operator) → IsPlacedAppended x → IsPlacedOperator P o → GivesThere P IsPlacedAppended (forms.append_operand w go ctx env x o)
  append_operand_there w go g ctx env x o q h =
      gives_there P IsPlacedAppended (coerced_there w x.place o.step.left x.last q.place) (λ a. gives_there P IsPlacedAppended (g.by ctx o.step.operand env h.1)
      (λ c. given_there P IsPlacedAppended _ (record { lefts = (h, q.lefts); place = place_placed P o.step.operand h.1 })))

  append_operands_there : (w : World) (go : Eval) → StopsInTrees go → (ctx : Context) (env : Env) (x : forms.Appended) (os : List Operator) → IsPlacedAppended x → AllBy (IsPlacedOperator P) os → GivesThere P IsPlacedAppended (forms.append_operands w go ctx env x os)
  append_operands_there w go g ctx env x [] q h = given_there P IsPlacedAppended x q
  append_operands_there w go g ctx env x (o ∷ os) q h =
      both_there P IsPlacedAppended IsPlacedAppended (append_operand_there w go g (first_in (right_in ctx o.step) os) env x o q h.0) (λ y r. append_operands_there w go g (right_in ctx o.step) env y os r h.1)

  append_node_there : (w : World) (right : Span × Cell) (l : Operator × Cell) → P right.0 → IsPlacedOperator P l.0 → GivesThere P (λ r. P r.0) (forms.append_node w right l)
  append_node_there w right l p h =
      gives_there P (λ r. P r.0) (coerced_there w right.0 l.0.step.right right.1 p)
      (λ b. gives_there P (λ r. P r.0) (operated_there w l.0.at l.0.step.ty l.0.step.row (operand_base l.0.step) (l.1 ∷ b ∷ []) h.0) (λ next. given_there P (λ r. P r.0) (l.0.at, next) h.0))

  appended_there : (w : World) (go : Eval) → StopsInTrees go → (ctx : Context) (env : Env) (f : Innermost) (first : Cell) → IsPlacedInnermost P f → StopsThere P (forms.appended w go ctx env f first)
  appended_there w go g ctx env f first h =
      with_there P IsPlacedAppended (append_operands_there w go g ctx env _ f.operators (record { lefts = tt; place = place_placed P f.first h.first }) h.operators)
      (λ x q. then_there P (loop_kept P (λ r. P r.0) (λ l. IsPlacedOperator P l.0) (forms.append_node w) (append_node_there w) (x.place, x.last) x.lefts q.place q.lefts) (λ r. give_there P _))

  chain_by_there : (w : World) (go : Eval) → StopsInTrees go → (ctx : Context) (env : Env) (t : Bool) (f : Innermost) → IsPlacedInnermost P f → StopsThere P (forms.chain_by w go ctx env t f)
  chain_by_there w go g ctx env true f h = then_there P (g.by (first_in ctx f.operators) f.first env h.first) (λ c. appended_there w go g ctx env f c h)
  chain_by_there w go g ctx env false f h = then_there P (g.by (before ctx f.operators) f.first env h.first) (λ c. operators_there w go g ctx env (place_of f.first) c f.operators (place_placed P f.first h.first) h.operators)

  -- ---- arrays, `if`

  table_there : (w : World) (go : Eval) → StopsInTrees go → (ctx : Context) (rs : List (List Tree)) (at : Span) (env : Env) → P at → AllBy (ArePlaced P) rs → StopsThere P (forms.table w go ctx rs at env)
  table_there w go g ctx rs at env p h =
      then_there P (loop_there P (ArePlaced P) (forms.row_of_parts go ctx env) (λ acc es k. then_there P (parts_there go g ctx es env k) (λ cs. give_there P _)) [] rs h)
      (λ rows. then_there P (spend_there P w.budget at 1 p) (λ u. table_cell_there P w.mode at rows p))

  last_branch_there : (w : World) (go : Eval) → StopsInTrees go → (ctx : Context) (e : Tree) (at : Span) (t : PlainType) (env : Env) (acc : List (Cell × Cell)) → P at → IsPlaced P e → StopsThere P (forms.last_branch w go ctx e at t env acc)
  last_branch_there w go g ctx e at t env acc p h =
      then_there P (g.by ctx e env h) (λ x. then_there P (weigh_there P w.mode _) (λ v. then_there P (spend_there P w.budget at 1 p) (λ u. branch_cell_there P w.mode t at acc x p)))

  otherwise_there : (w : World) (go : Eval) → StopsInTrees go → (ctx : Context) (e : Option Tree) (at : Span) (t : PlainType) (env : Env) (acc : List (Cell × Cell)) → P at → IsPlacedMaybe P e → StopsThere P (forms.otherwise w go ctx e at t env acc)
  otherwise_there w go g ctx None at t env acc p h = then_there P (spend_there P w.budget at 1 p) (λ u. branch_cell_there P w.mode t at acc _ p)
  otherwise_there w go g ctx (Some e) at t env acc p h = last_branch_there w go g ctx e at t env acc p h

  open_branch_there : (w : World) (go : Eval) → StopsInTrees go → (ctx : Context) (e : Tree) (env : Env) (acc : List (Cell × Cell)) (c : Cell) (t : Test) → IsPlaced P e → StopsThere P (forms.open_branch w go ctx e env acc c t)
  open_branch_there w go g ctx e env acc c (Settled b) h = give_there P acc
  open_branch_there w go g ctx e env acc c Open h = then_there P (g.by ctx e env h) (λ x. then_there P (weigh_there P w.mode _) (λ v. give_there P (acc ++ (c, x) ∷ [])))

  branches_there : (w : World) (go : Eval) → StopsInTrees go → (ctx : Context) (bs : List (Tree × Tree)) (els : Option Tree) (at : Span) (t : PlainType) (env : Env) (acc : List (Cell × Cell)) → P at → AllBy (IsPlacedPair P) bs → IsPlacedMaybe P els → StopsThere P (forms.branches w go ctx bs els at t env acc)
  branches_there w go g ctx [] els at t env acc p h k = otherwise_there w go g ctx els at t env acc p k
  branches_there w go g ctx (b ∷ bs) els at t env acc p h k =
      then_there P (g.by (elsewhere ctx) b.0 env h.0.0)
      (λ c. when_there P (forms.is_met (test_of c)) _ _ (last_branch_there w go g ctx b.1 at t env acc p h.0.1) (then_there P (open_branch_there w go g ctx b.1 env acc c (test_of c) h.0.1) (λ acc2. branches_there w go g ctx bs els at t env acc2 p h.1 k)))

  -- ---- comprehensions

  record IsRestThere (rest : comps.Rest) : Type 0 where
    by : (env : Env) (o : Option Bool) (made : comps.Made) → StopsThere P (rest env o made)

  added_there : (mode : Mode) (go : Eval) → StopsInTrees go → (ctx : Context) (e : Tree) → IsPlaced P e → IsRestThere (comps.added mode go ctx e)
  added_there mode go g ctx e h = record { by = λ env o made. then_there P (g.by ctx e env h) (λ c. give_there P _) }

  filtered_there : (mode : Mode) (rest : comps.Rest) → IsRestThere rest → (env : Env) (o : Option Bool) (made : comps.Made) (c : Cell) (t : Test) → StopsThere P (comps.filtered mode rest env o made c t)
  filtered_there mode rest r env o made c (Settled true) = r.by env o made
  filtered_there mode rest r env o made c (Settled false) = give_there P made
  filtered_there mode rest r env o made c Open = r.by env _ made

  where_there : (mode : Mode) (go : Eval) → StopsInTrees go → (ctx : Context) (cond : Option Tree) (rest : comps.Rest) → IsPlacedMaybe P cond → IsRestThere rest → IsRestThere (comps.where_ mode go ctx cond rest)
  where_there mode go g ctx None rest h r = record { by = r.by }
  where_there mode go g ctx (Some t) rest h r = record { by = λ env o made. then_there P (g.by (elsewhere ctx) t env h) (λ c. filtered_there mode rest r env o made c (test_of c)) }

  names_there : (w : World) (at : Span) (es : List comps.Element) (ss : List ℕ) (rest : comps.Rest) → P at → IsRestThere rest → IsRestThere (comps.names w at es ss rest)
  names_there w at es [] rest p r = record { by = r.by }
  names_there w at es (s ∷ ss) rest p r =
      record { by = λ env o made. loop_anyway P _ (λ acc x. then_there P (spend_there P w.budget at 1 p) (λ u. (names_there w at es ss rest p r).by (bind s x.0 env) (comps.both_occur o x.1) acc)) made es }

  generators_there : (w : World) (go : Eval) → StopsInTrees go → (ctx : Context) (at : Span) (gs : List Gen) (rest : comps.Rest) → P at → AllBy (IsPlacedGen P) gs → IsRestThere rest → IsRestThere (comps.generators w go ctx at gs rest)
  generators_there w go g ctx at [] rest p h r = record { by = r.by }
  generators_there w go g ctx at (x ∷ gs) rest p h r = record {
    by = λ env o made. then_there P (g.by (elsewhere ctx) x.set env h.0.set)
        (λ c. (names_there w at (comps.elements_in w.mode (type_of x.set).base c) x.slots (comps.where_ w.mode go ctx x.cond (comps.generators w go ctx at gs rest)) p
        (where_there w.mode go g ctx x.cond (comps.generators w go ctx at gs rest) h.0.cond (generators_there w go g ctx at gs rest p h.1 r))).by env o (comps.with_set w.mode o c made));
  }

  comprehension_there : (w : World) (go : Eval) → StopsInTrees go → (ctx : Context) (braces : Bool) (e : Tree) (gs : List Gen) (at : Span) (t : PlainType) (env : Env) → P at → IsPlaced P e → AllBy (IsPlacedGen P) gs → StopsThere P (comps.comprehension w go ctx braces e gs at t env)
  comprehension_there w go g ctx braces e gs at t env p h k =
      then_there P ((generators_there w go g ctx at gs (comps.added w.mode go ctx e) p k (added_there w.mode go g ctx e h)).by env None comps.nothing_made) (λ made. done_there w at _ p)

  -- ---- declared sets, lets

  want_there : (go : Eval) → StopsInTrees go → (ctx : Context) (e : Option Tree) (env : Env) → IsPlacedMaybe P e → StopsThere P (lets.want go ctx e env)
  want_there go g ctx None env h = give_there P _
  want_there go g ctx (Some e) env h = then_there P (g.by ctx e env h) (λ c. give_there P _)

  index_want_there : (go : Eval) → StopsInTrees go → (ctx : Context) (e : Option Tree) (env : Env) → IsPlacedMaybe P e → StopsThere P (lets.index_want go ctx e env)
  index_want_there go g ctx None env h = give_there P _
  index_want_there go g ctx (Some e) env h = then_there P (g.by ctx e env h) (λ c. contiguous_there P (place_of e) (set_in c) (place_placed P e h))

  index_wants_there : (go : Eval) → StopsInTrees go → (ctx : Context) (es : List (Option Tree)) (env : Env) → AllBy (IsPlacedMaybe P) es → StopsThere P (lets.index_wants go ctx es env)
  index_wants_there go g ctx es env h = loop_there P (IsPlacedMaybe P) (lets.one_index go ctx env) (λ acc e k. then_there P (index_want_there go g ctx e env k) (λ x. give_there P _)) [] es h

  free_local_there : (w : World) (ctx : Context) (at : Span) (t : PlainType) (ixs : List Want) (x : Want) → P at → StopsThere P (lets.free_local w ctx at t ixs x)
  free_local_there w Untested at t ixs x p = chosen_there P w.mode w.int_range t ixs x
  free_local_there w Positive at t ixs x p = chosen_there P w.mode w.int_range t ixs x
  free_local_there w Other at t ixs x p = stop_there P kind.FreeInContext at (pos 0) p

  given_value_there : (w : World) (go : Eval) → StopsInTrees go → (ctx : Context) (d : Decl) (ixs : List Want) (x : Want) (env : Env) (e : Option Tree) → IsPlacedDecl P d → IsPlacedMaybe P e → StopsThere P (lets.given_value w go ctx d ixs x env e)
  given_value_there w go g ctx d ixs x env None h k = then_there P (spend_there P w.budget d.span (arrays.declared_count ixs undefined) h.span) (λ u. free_local_there w ctx d.ty.span d.ty.ty ixs x h.ty.span)
  given_value_there w go g ctx d ixs x env (Some e) h k =
      then_there P (g.by ctx e env k) (λ c. then_there P (spend_there P w.budget d.span (arrays.declared_count ixs c) h.span) (λ u. then_there P (fitted_there P (place_of e) ixs c (place_placed P e k)) (λ f. give_there P _)))

  declared_there : (w : World) (go : Eval) → StopsInTrees go → (ctx : Context) (d : Decl) (env : Env) → IsPlacedDecl P d → StopsThere P (lets.declared w go ctx d env)
  declared_there w go g ctx d env h =
      then_there P (weigh_there P w.mode 1) (λ v. then_there P (index_wants_there go g ctx d.ty.index env h.ty.index) (λ ixs. then_there P (want_there go g ctx d.ty.set env h.ty.set) (λ x. given_value_there w go g ctx d ixs x env d.value h h.value)))

  item_there : (w : World) (go : Eval) → StopsInTrees go → (ctx : Context) (env : Env) (b : lets.Names) (i : Item) → IsPlacedItem P i → StopsThere P (lets.let_item w go ctx env b i)
  item_there w go g ctx env b (constrains e) h = then_there P (g.by ctx e (lets.names_in b env) h) (λ c. give_there P _)
  item_there w go g ctx env b (declares d) h = then_there P (declared_there w go g ctx d (lets.names_in b env) h) (λ x. give_there P _)

  let_there : (w : World) (go : Eval) → StopsInTrees go → (ctx : Context) (is : List Item) (e : Tree) (at : Span) (t : PlainType) (env : Env) → P at → AllBy (IsPlacedItem P) is → IsPlaced P e → StopsThere P (lets.let_of w go ctx is e at t env)
  let_there w go g ctx is e at t env p h k =
      then_there P (loop_there P (IsPlacedItem P) (lets.let_item w go ctx env) (item_there w go g ctx env) lets.nothing_bound is h) (λ b. then_there P (g.by ctx e (lets.names_in b env) k) (λ c. done_there w at _ p))

  -- ---- calls

  abbrev IsPlacedArgument : Decl × Tree × Cell → Type 0
  IsPlacedArgument p = IsPlacedDecl P p.0 × IsPlaced P p.1

  arguments_placed : (ds : List Decl) (es : List Tree) (cs : List Cell) → AllBy (IsPlacedDecl P) ds → ArePlaced P es → AllBy IsPlacedArgument (calls.arguments ds es cs)
  arguments_placed [] es cs h k = tt
  arguments_placed (d ∷ ds) [] cs h k = tt
  arguments_placed (d ∷ ds) (e ∷ es) [] h k = tt
  arguments_placed (d ∷ ds) (e ∷ es) (c ∷ cs) h k = ((h.0, k.0), arguments_placed ds es cs h.1 k.1)

  parameter_there : (go : Eval) → StopsInTrees go → (ctx : Context) (var : Bool) (top : Env) (b : lets.Names) (p : Decl × Tree × Cell) → IsPlacedArgument p → StopsThere P (calls.parameter go ctx var top b p)
  parameter_there go g ctx var top b p h =
      then_there P (index_wants_there go g ctx p.0.ty.index (lets.names_in b top) h.0.ty.index) (λ ixs. then_there P (want_there go g ctx p.0.ty.set (lets.names_in b top) h.0.ty.set) (λ x. then_there P (fitted_there P (place_of p.1) ixs p.2 (place_placed P p.1 h.1)) (λ c. give_there P _)))

  called_there : (w : World) (go : Eval) → StopsInTrees go → (ctx : Context) (f : Function) (at : Span) (b : lets.Names) → P at → IsPlacedFunction P f → StopsThere P (calls.called w go ctx f at b)
  called_there w go g ctx f at b p h =
      then_there P (g.by ctx f.body (lets.names_in b w.top) h.body) (λ c. then_there P (index_wants_there go g ctx f.result.index (lets.names_in b w.top) h.result.index) (λ ixs. then_there P (want_there go g ctx f.result.set (lets.names_in b w.top) h.result.set)
      (λ x. then_there P (fitted_there P (place_of f.body) ixs c (place_placed P f.body h.body)) (λ r. then_there P (weigh_there P w.mode (or_zero (length_of r)))
      (λ u. done_there w at (guarded w.mode f.result.ty (both_sure b.holds (both_sure (lets.all_have_sets ixs) (arrays.suits x r))) r) p)))))

  call_of_there : (w : World) (go : Eval) → StopsInTrees go → (ctx : Context) (f : Option Function) (es : List Tree) (cs : List Cell) (at : Span) → P at → OfSome (IsPlacedFunction P) f → ArePlaced P es → StopsThere P (calls.call_of w go ctx f es cs at)
  call_of_there w go g ctx None es cs at p h k = done_there w at _ p
  call_of_there w go g ctx (Some f) es cs at p h k =
      then_there P (weigh_there P w.mode (calls.all_lengths 0 cs)) (λ u. then_there P (loop_there P IsPlacedArgument (calls.parameter go ctx f.result.ty.var w.top) (parameter_there go g ctx f.result.ty.var w.top) lets.nothing_bound (calls.arguments f.params es cs) (arguments_placed f.params es cs h.params k)) (λ b. called_there w go g ctx f at b p h))

  -- ---- all forms

  node_there : (w : World) → AllBy (IsPlacedFunction P) w.functions → (go : Eval) → StopsInTrees go → (ctx : Context) (l : Layer) (at : Span) (t : PlainType) (env : Env) → P at → IsPlacedLayer P l → StopsThere P (node w go ctx l at t env)
  node_there w fs go g ctx (tree.chain_form e ss) at t env p h = chain_by_there w go g ctx env (same_level 12 ss) (chained at e ss) (chained_placed P at e ss p h.0 h.1)
  node_there w fs go g ctx (tree.builtin_form n es) at t env p h = then_there P (parts_there go g (forms.arguments_in ctx n (forms.arguments_base es t)) es env h) (λ cs. row_or_global_there w at t cs (globals.global_of n) (operations.row_at n (forms.arguments_base es t)) p)
  node_there w fs go g ctx (tree.call_form f es) at t env p h = then_there P (parts_there go g ctx es env h) (λ cs. call_of_there w go g ctx (slice_get w.functions f) es cs at p (found_all (IsPlacedFunction P) w.functions f fs) h)
  node_there w fs go g ctx (tree.access_form e es) at t env p h = then_there P (g.by ctx e env h.0) (λ a. then_there P (parts_there go g ctx es env h.1) (λ cs. done_there w at _ p))
  node_there w fs go g ctx (tree.array_form es) at t env p h = then_there P (parts_there go g ctx es env h) (λ cs. done_there w at _ p)
  node_there w fs go g ctx (tree.rows_form rs) at t env p h = table_there w go g ctx rs at env p h
  node_there w fs go g ctx (tree.set_form es) at t env p h = then_there P (parts_there go g ctx es env h) (λ cs. done_there w at _ p)
  node_there w fs go g ctx (tree.comp_form braces e gs) at t env p h = comprehension_there w go g ctx braces e gs at t env p h.0 h.1
  node_there w fs go g ctx (tree.if_form bs els) at t env p h = branches_there w go g ctx bs els at t env [] p h.0 h.1
  node_there w fs go g ctx (tree.let_form is e) at t env p h = let_there w go g ctx is e at t env p h.0 h.1
  node_there w fs go g ctx l at t env p h = done_there w at _ p

  all_there : (w : World) → AllBy (IsPlacedFunction P) w.functions → (n : ℕ) → StopsInTrees (eval w n)
  unfolding eval
  all_there w fs zero = record { by = λ ctx e env h. stop_there P kind.Depth _ (pos 601) (place_placed P (inner_tree e) (inner_placed P e h)) }
  all_there w fs (suc n) = record {
    by = λ ctx e env h.
        let mine = inner_placed P e h in
        then_there P (node_there w fs (eval w n) (all_there w fs n) (within_links ctx (root_coercions e)) (layer (shape_of (inner_tree e))) (place_of (inner_tree e)) (type_of (inner_tree e)) env (place_placed P (inner_tree e) mine) (placed_layer P (inner_tree e) mine))
        (λ c. coerced_there w (place_of (inner_tree e)) (root_coercions e) _ (place_placed P (inner_tree e) mine));
  }

  pub eval_there : (w : World) → AllBy (IsPlacedFunction P) w.functions → (n : ℕ) (ctx : Context) (e : Tree) (env : Env) → IsPlaced P e → StopsThere P (eval w n ctx e env)
  eval_there w fs n ctx e env h = (all_there w fs n).by ctx e env h
