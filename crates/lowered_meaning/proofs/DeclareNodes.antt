-- Every declaration.
use Rattle.std.proofs.Common.{◌≡◌, ℕ, suc, ◌+◌, ◌≤◌, Bool, true, false, Option, Some, None, List, [], ◌∷◌, length, refl, sym, ap, subst, arith, ◌⊎◌}
use Rattle.std.specs.Prelude.{⊤, slice_get, is_none, if◌then◌else◌}
use Rattle.c_tree.specs.declared.tree.Expr.{Expr}
use Rattle.c_tree.specs.declared.tree.Variable.{Variable}
use Rattle.c_tree.specs.declared.tree.Declared.{Declared}
use Rattle.c_tree.specs.Runs.{Part, write, ◌>>=◌}
use Rattle.c_tree.specs.Nodes.{declare_sized, declare_at, declare_each}
use Rattle.sound_programs.specs.Counted.{expr_nodes, exprs_nodes, declarator_nodes, declared_nodes}
use Rattle.flow_graph.specs.declared.graph.Graph.{Graph}
use Rattle.lowered_graphs.specs.Making.{Counts, Emit, made_on, copy_into, zero_operand}
use Rattle.lowered_graphs.specs.Exprs.{home, length_or, length_in, array_use, lowered, calls, full}
use Rattle.lowered_graphs.specs.Stmts.{declare_scalar, declare_array, declare_one, declare, zero_array}
use Rattle.lowered_meaning.specs.Keeps.{Ground, HasHomes, OwnsTemporaries}
use Rattle.lowered_meaning.proofs.TrackLemmas.{tracks_weaker}
use Rattle.lowered_meaning.proofs.AssignStores.{Storable, size_of}
use Rattle.lowered_meaning.proofs.AssignActions.{DoesAct, ExprOk}
use Rattle.lowered_meaning.proofs.CallsArguments.{AllOk}
use Rattle.lowered_meaning.proofs.CallsParameters.{Enters}
use Rattle.lowered_meaning.proofs.DeclareScalars.{DoesOpened, declare_zero, declare_value, declare_none, declare_more}
use Rattle.lowered_meaning.proofs.DeclareLists.{declare_list, fill_grows}
use Rattle.lowered_meaning.specs.Leaves.{Since}

module _ (g : Graph) (w : Ground) (most : ℕ) (f : Expr → Part ℕ) (owns : OwnsTemporaries w) (some : 1 ≤ most) where
  -- the scope behind a declarator, and behind all of them
  abbrev pub Over : (ℕ → Type 0) → ℕ → ℕ → Type 0
  Over scope x y = (y ≡ x) ⊎ scope y

  abbrev pub BehindAll : (ℕ → Type 0) → List Declared → ℕ → Type 0
  BehindAll scope [] = scope
  BehindAll scope (d ∷ ds) = BehindAll (Over scope d.variable) ds

  abbrev pub ValuesOk : (ℕ → Type 0) → ℕ → Option ℕ → List Expr → Type 0
  ValuesOk scope x None [] = ⊤
  ValuesOk scope x None (e ∷ es) = ExprOk g w scope most f e
  ValuesOk scope x (Some n) es = AllOk g w (Over scope x) most f es × (length es ≤ n)

  -- what a declarator owes
  pub record DeclaredOk (scope : ℕ → Type 0) (d : Declared) : Type 0 where
    pub variable : Variable
    pub found : slice_get w.setting.program.variables d.variable ≡ Some variable
    pub homes : HasHomes w scope
    pub enters : Enters w scope (Over scope d.variable) d.variable
    pub can : Storable w (Over scope d.variable) d.variable
    pub values : ValuesOk scope d.variable variable.length d.values

  abbrev pub AllDeclared : (ℕ → Type 0) → List Declared → Type 0
  AllDeclared scope [] = ⊤
  AllDeclared scope (d ∷ ds) = DeclaredOk scope d × AllDeclared (Over scope d.variable) ds

  abbrev extra : Option ℕ → ℕ
  extra l = if is_none l then 0 else 1

  more_opened : (scope scope' : ℕ → Type 0) (n m : ℕ) (p : Part (Unit {0})) (emit : Emit (Unit {0})) → n ≤ m → DoesOpened g w scope scope' most n p emit → DoesOpened g w scope scope' most m p emit
  more_opened scope scope' n m p emit le h c low top k s d a o agrees ready =
      tracks_weaker g most (a + n) a (6 + o) o (a + m) a (6 + o) o (p d) k (emit c).items s (λ u e z. Since w scope' s d e z) (λ u e z. Since w scope' s d e z)
      (omega (arith, le)) (omega (arith, le)) (omega arith) (omega arith) (λ u e z r. r) (h c low top k s d a o agrees ready)

  opened : (scope : ℕ → Type 0) (d : Declared) (l : Option ℕ) (es : List Expr) → es ≡ d.values → size_of w d.variable ≡ length_or l → HasHomes w scope → Enters w scope (Over scope d.variable) d.variable → Storable w (Over scope d.variable) d.variable
      → ValuesOk scope d.variable l es
      → DoesOpened g w scope (Over scope d.variable) most (extra l + exprs_nodes es) (declare_sized f d.variable l es)
      (if is_none l then declare_scalar w.setting d.variable es d.place else declare_array w.setting d.variable es d.place)
  opened scope d None [] e size homes enters can ok = more_opened scope (Over scope d.variable) 0 (0 + 0) (write d.variable 0) (copy_into (home w.setting d.variable) zero_operand d.place) (omega arith) (declare_zero g w scope (Over scope d.variable) most d.variable d.place enters size)
  opened scope d None (v ∷ es) e size homes enters can ok =
      more_opened scope (Over scope d.variable) (expr_nodes v) (0 + exprs_nodes (v ∷ es)) (f v >>= write d.variable) (λ c. made_on (full w.setting v c) (λ a. copy_into (home w.setting d.variable) a d.place)) (omega arith)
      (declare_value g w scope (Over scope d.variable) most (expr_nodes v) d.variable (calls (lowered w.setting v)) false (f v) (full w.setting v) d.place enters size (ok false))
  opened scope d (Some n) es e size homes enters can ok =
      subst (λ m. DoesOpened g w scope (Over scope d.variable) most (1 + exprs_nodes es) (declare_sized f d.variable (Some m) es) (declare_array w.setting d.variable es d.place)) size
      (declare_list g w scope (Over scope d.variable) most d.variable f es d.place owns homes enters can some ok.0 (omega (arith, ok.1, size)))

  opened_grows : (scope : ℕ → Type 0) (d : Declared) (l : Option ℕ) (es : List Expr) → Storable w (Over scope d.variable) d.variable → ValuesOk scope d.variable l es → (c : Counts)
      → c.temp ≤ ((if is_none l then declare_scalar w.setting d.variable es d.place else declare_array w.setting d.variable es d.place) c).counts.temp
  opened_grows scope d None [] can ok c = omega arith
  opened_grows scope d None (v ∷ es) can ok c = omega (arith, (ok false).grows c)
  opened_grows scope d (Some n) es can ok c =
      omega (arith, fill_grows g w (Over scope d.variable) most d.variable can f es 0 d.place (zero_array (array_use w.setting d.variable) d.place c).counts ok.0)

  one_grows : (scope : ℕ → Type 0) (d : Declared) → DeclaredOk scope d → (c : Counts) → c.temp ≤ (declare_one w.setting (slice_get w.setting.program.variables d.variable) d c).counts.temp
  one_grows scope d ok c = subst (λ v. c.temp ≤ (declare_one w.setting v d c).counts.temp) (sym ok.found) (opened_grows scope d ok.variable.length d.values ok.can ok.values c)

  pub declared_grows : (scope : ℕ → Type 0) (ds : List Declared) → AllDeclared scope ds → (c : Counts) → c.temp ≤ (declare w.setting ds c).counts.temp
  declared_grows scope [] ok c = omega arith
  declared_grows scope (d ∷ ds) ok c =
      omega (arith, one_grows scope d ok.0 c, declared_grows (Over scope d.variable) ds ok.1 (declare_one w.setting (slice_get w.setting.program.variables d.variable) d c).counts)

  nodes_are : (v : Variable) → suc (extra v.length) ≡ declarator_nodes (Some v)
  nodes_are v = by_length (is_none v.length)
    where
      by_length : (b : Bool) → suc (if b then 0 else 1) ≡ (if b then 1 else 2)
      by_length true = refl
      by_length false = refl

  -- declarators one after another, with the scope behind them
  pub declared_tracked : (scope : ℕ → Type 0) (ds : List Declared) → AllDeclared scope ds
      → DoesAct g w scope (BehindAll scope ds) most (declared_nodes w.setting.program ds) (declare_each w.setting.program f ds) (declare w.setting ds)
  declared_tracked scope [] ok = declare_none g w scope most
  declared_tracked scope (d ∷ ds) ok =
      subst (λ n. DoesAct g w scope (BehindAll scope (d ∷ ds)) most n (declare_each w.setting.program f (d ∷ ds)) (declare w.setting (d ∷ ds)))
      (omega (arith, nodes_are ok.0.variable, ap declarator_nodes ok.0.found))
      (declare_more g w scope (Over scope d.variable) (BehindAll scope (d ∷ ds)) most (extra ok.0.variable.length + exprs_nodes d.values) (declared_nodes w.setting.program ds)
      (declare_at f d.variable (slice_get w.setting.program.variables d.variable) d.values) (declare_each w.setting.program f ds)
      (declare_one w.setting (slice_get w.setting.program.variables d.variable) d) (declare w.setting ds) (one_grows scope d ok.0) (declared_grows (Over scope d.variable) ds ok.1)
      (subst (λ v. DoesOpened g w scope (Over scope d.variable) most (extra ok.0.variable.length + exprs_nodes d.values) (declare_at f d.variable v d.values) (declare_one w.setting v d)) (sym ok.0.found)
      (opened scope d ok.0.variable.length d.values refl (ap length_in ok.0.found) ok.0.homes ok.0.enters ok.0.can ok.0.values))
      (declared_tracked (Over scope d.variable) ds ok.1))
