-- THE TYPING OF AN EXPRESSION: what it is typed to, or the first fault.
use Rattle.std.specs.Prelude.{true, false, List, [], ◌∷◌, Option, Some, None, Ok}
use Rattle.mz_base.specs.declared.fault.Span.{Span}
use Rattle.mz_base.specs.declared.kind.Kind.TheVariants as kind
use Rattle.mz_core.specs.Tree as typed
use Rattle.mz_tree.specs.declared.expr.PlacedOp.{PlacedOp}
use Rattle.mz_tree.specs.Tree as source
use Rattle.mz_tree.specs.Tree.{Tree, Shape, Maybe, Trees, Links, Rows, Branches, Part, Parts, Generator, Gens, Let, Lets, Declaration, Written, Dims, Bases}
use Rattle.mz_check_meaning.specs.Tests.{refuse}
use Rattle.mz_check_meaning.specs.Models.{Model}
use Rattle.mz_check_meaning.specs.Coerced.{bool_type, int_type, text_type, absent_type}
use Rattle.mz_check_meaning.specs.Names.{named}
use Rattle.mz_check_meaning.specs.WrittenTypes.{Based, of_bool, of_int, of_set}
use Rattle.mz_check_meaning.specs.Forms.{Check, TypeCheck, GenCheck, LetCheck, declares_by, constrains_by, PieceCheck, plain_by, shown_by, unary_of, chain_of, call_of, gen_call_of, array_of, rows_of, set_of, access_of, choice_of, comp_of, let_of, text_of, written_of}

unfoldable mutual
  pub check : Model → Tree → Check
  check m (source.node at f) = check_form m f at

  pub check_form : Model → Shape → Span → Check
  check_form m (source.int n) at env = Ok (typed.node at int_type (typed.int n))
  check_form m (source.bool b) at env = Ok (typed.node at bool_type (typed.bool b))
  check_form m source.absent at env = Ok (typed.node at absent_type typed.absent)
  check_form m (source.text n) at env = Ok (typed.node at text_type (typed.text n))
  check_form m (source.ident n) at env = named m env at n
  check_form m (source.interp ps) at env = text_of at (check_pieces m ps) env
  check_form m (source.unary o e) at env = unary_of at o (check m e) env
  check_form m (source.chain e ls) at env = chain_of at (check m e) (check_links m ls) env
  check_form m (source.call n es) at env = call_of m at n (checks m es) env
  check_form m (source.gen_call n gs e) at env = gen_call_of m at n (check_gens m gs) (check m e) env
  check_form m (source.access e es) at env = access_of at (check m e) (checks m es) env
  check_form m (source.array es) at env = array_of at (checks m es) env
  check_form m (source.rows rs) at env = rows_of at (check_rows m rs) env
  check_form m (source.set es) at env = set_of at (checks m es) env
  check_form m (source.array_comp e gs) at env = comp_of at false (check_gens m gs) (check m e) env
  check_form m (source.set_comp e gs) at env = comp_of at true (check_gens m gs) (check m e) env
  check_form m (source.choice bs e) at env = choice_of at (check_branches m bs) (check_maybe m e) env
  check_form m (source.let_in ls e) at env = let_of at (check_lets m ls) (check m e) env
  -- a whole dimension as an index
  check_form m source.whole at env = refuse kind.LeftOut at

  pub check_maybe : Model → Maybe → Option Check
  check_maybe m source.nothing = None
  check_maybe m (source.just e) = Some (check m e)

  pub checks : Model → Trees → List Check
  checks m source.no_trees = []
  checks m (source.a_tree e es) = check m e ∷ checks m es

  pub check_links : Model → Links → List (PlacedOp × Check)
  check_links m source.no_links = []
  check_links m (source.a_link o e ls) = (o, check m e) ∷ check_links m ls

  pub check_rows : Model → Rows → List (List Check)
  check_rows m source.no_rows = []
  check_rows m (source.a_row r rs) = checks m r ∷ check_rows m rs

  pub check_branches : Model → Branches → List (Check × Check)
  check_branches m source.no_branches = []
  check_branches m (source.a_branch c e bs) = (check m c, check m e) ∷ check_branches m bs

  pub check_piece : Model → Part → PieceCheck
  check_piece m (source.plain n) = plain_by n
  check_piece m (source.shown e) = shown_by (check m e)

  pub check_pieces : Model → Parts → List PieceCheck
  check_pieces m source.no_parts = []
  check_pieces m (source.a_part p ps) = check_piece m p ∷ check_pieces m ps

  pub check_gen : Model → Generator → GenCheck
  check_gen m (source.generator ns e c) = record { names = ns; set = check m e; cond = check_maybe m c }

  pub check_gens : Model → Gens → List GenCheck
  check_gens m source.no_gens = []
  check_gens m (source.a_gen g gs) = check_gen m g ∷ check_gens m gs

  pub check_let : Model → Let → LetCheck
  check_let m (source.declared d) = check_declaration m d
  check_let m (source.constrained e) = constrains_by (check m e)

  pub check_lets : Model → Lets → List LetCheck
  check_lets m source.no_lets = []
  check_lets m (source.a_let l ls) = check_let m l ∷ check_lets m ls

  pub check_declaration : Model → Declaration → LetCheck
  check_declaration m (source.declaration t n at e) = declares_by (check_written m t) n at (check_maybe m e)

  pub check_written : Model → Written → TypeCheck
  check_written m (source.written at ds var opt set b) env = written_of at var opt set (check_dims m ds) (check_based m b) env

  pub check_based : Model → source.Based → Based Check
  check_based m source.base_bool = of_bool
  check_based m source.base_int = of_int
  check_based m (source.base_of e) = of_set (check m e)

  pub check_dims : Model → Dims → List (Based Check)
  check_dims m source.no_array = []
  check_dims m (source.array_of bs) = check_bases m bs

  pub check_bases : Model → Bases → List (Based Check)
  check_bases m source.no_bases = []
  check_bases m (source.a_base b bs) = check_based m b ∷ check_bases m bs
