-- The theorem for a sound program whose names are in scope, from how its functions stand in the graph.
use Rattle.std.proofs.Common.{◌≡◌, ◌≢◌, ℕ, zero, suc, ◌+◌, ◌<◌, ◌≤◌, Bool, true, false, Option, Some, None, List, [], ◌∷◌, ◌++◌, refl, sym, ap, subst, arith}
use Rattle.std.specs.Prelude.{slice_get, ◌==◌, ◌&&◌, if◌then◌else◌}
use Rattle.std.proofs.lemmas.Bool.Decides.{Decides-eqb}
use Rattle.c_tree.specs.declared.tree.StmtKind.{out-StmtKind}
use Rattle.c_tree.specs.declared.tree.BlockItem.TheOpen.{StmtKind-F}
use Rattle.c_tree.specs.declared.tree.Function.{Function}
use Rattle.c_tree.specs.declared.tree.Program.{Program}
use Rattle.c_tree.specs.Layer.{StmtLayer}
use Rattle.c_tree.specs.Laws.{AreBounded}
use Rattle.c_tree.specs.Meaning as meant
use Rattle.sound_programs.specs.Sound.{functions_fit, parameters_fit, stmt_fits}
use Rattle.sound_programs.specs.SoundPrograms.{IsSound}
use Rattle.sound_programs.specs.Counted.{stmt_nodes, implied_nodes, functions_nodes}
use Rattle.sound_programs.specs.Scoped.{Scope, IsScoped, scoped, in_body, globals_from, functions_scoped}
use Rattle.sound_programs.proofs.CountLevels as count
use Rattle.flow_graph.specs.declared.graph.Graph.{Graph}
use Rattle.flow_graph.specs.Operations.{Words}
use Rattle.flow_graph.specs.Nodes.{first_of, laid_items, around_body, entry}
use Rattle.flow_graph.specs.Flow.{Begin}
use Rattle.flow_graph.specs.Flow as flow
use Rattle.lowered_graphs.specs.Making.{Counts}
use Rattle.lowered_graphs.specs.Exprs.{home, is_global, place_of, result_home}
use Rattle.lowered_graphs.specs.Stmts.{lowered_stmt}
use Rattle.lowered_graphs.specs.GraphOf as graph
use Rattle.lowered_meaning.specs.Behaves.{IsLowered}
use Rattle.lowered_meaning.specs.Tracks.{Stand}
use Rattle.lowered_meaning.specs.Keeps.{Ground, OwnsTemporaries, HasHomes, Agrees, Ready}
use Rattle.lowered_meaning.proofs.AssignStores.{HomesDiffer}
use Rattle.lowered_meaning.proofs.CallsFalls.{IsApart}
use Rattle.lowered_meaning.proofs.CallsParameters.{AreParameters}
use Rattle.lowered_meaning.proofs.FitParts.{both_parts, Each}
use Rattle.lowered_meaning.proofs.FitExprs.{Grounded}
use Rattle.lowered_meaning.proofs.FunctionScopes.{BodyScope, params_in, body_covers}
use Rattle.lowered_meaning.proofs.GoodStmts.{OwnOnce}
use Rattle.lowered_meaning.proofs.FunctionsRun as run
use Rattle.lowered_meaning.proofs.BodiesTrack.{AllKnown, bodies_track}
use Rattle.lowered_meaning.proofs.LoweredMain.{lowered_main}

-- ---- what is said of all functions is said of each

fits_at : (p : Program) (fs : List Function) (f : ℕ) (fn : Function) → functions_fit p fs ≡ true → slice_get fs f ≡ Some fn → stmt_fits p fn.result fn.body ≡ true
fits_at p [] f fn h e = cc
fits_at p (k ∷ fs) zero fn h e =
    subst (λ z. stmt_fits p z.result z.body ≡ true) (ap (λ o. or_first k o) e) (both_parts (stmt_fits p k.result k.body) (functions_fit p fs) (both_parts (parameters_fit p k.params) (stmt_fits p k.result k.body && functions_fit p fs) h).1).0
  where
    or_first : Function → Option Function → Function
    or_first d None = d
    or_first d (Some z) = z
fits_at p (k ∷ fs) (suc f) fn h e =
    fits_at p fs f fn (both_parts (stmt_fits p k.result k.body) (functions_fit p fs) (both_parts (parameters_fit p k.params) (stmt_fits p k.result k.body && functions_fit p fs) h).1).1 e

scoped_at : (globals : Scope) (fs : List Function) (f : ℕ) (fn : Function) → functions_scoped globals fs ≡ true → slice_get fs f ≡ Some fn → (scoped fn.body).fits in_body (fn.params ++ globals) ≡ true
scoped_at globals [] f fn h e = cc
scoped_at globals (k ∷ fs) zero fn h e =
    subst (λ z. (scoped z.body).fits in_body (z.params ++ globals) ≡ true) (ap (λ o. or_first k o) e) (both_parts ((scoped k.body).fits in_body (k.params ++ globals)) (functions_scoped globals fs) h).0
  where
    or_first : Function → Option Function → Function
    or_first d None = d
    or_first d (Some z) = z
scoped_at globals (k ∷ fs) (suc f) fn h e = scoped_at globals fs f fn (both_parts ((scoped k.body).fits in_body (k.params ++ globals)) (functions_scoped globals fs) h).1 e

-- a function has no more nodes than the program
few_at : (p : Program) (fs : List Function) (f : ℕ) (fn : Function) → slice_get fs f ≡ Some fn → stmt_nodes p fn.body + implied_nodes (out-StmtKind fn.body.kind) ≤ functions_nodes p fs
few_at p [] f fn e = cc
few_at p (k ∷ fs) zero fn e = subst (λ z. stmt_nodes p z.body + implied_nodes (out-StmtKind z.body.kind) ≤ functions_nodes p (k ∷ fs)) (ap (λ o. or_first k o) e) (omega arith)
  where
    or_first : Function → Option Function → Function
    or_first d None = d
    or_first d (Some z) = z
few_at p (k ∷ fs) (suc f) fn e = omega (arith, few_at p fs f fn e)

-- the step of an implied return, as the lowering and the count see it
implied_is : (L : StmtLayer) → (if graph.ends_by L then 0 else 1) ≡ implied_nodes L
implied_is (StmtKind-F.Block items) = refl
implied_is StmtKind-F.Empty = refl
implied_is (StmtKind-F.«StmtKind::Act» a) = refl
implied_is StmtKind-F.Break = refl
implied_is StmtKind-F.Continue = refl
implied_is (StmtKind-F.Return e) = refl
implied_is (StmtKind-F.If c x y) = refl
implied_is (StmtKind-F.While c body) = refl
implied_is (StmtKind-F.Do body c) = refl
implied_is (StmtKind-F.For f c step body) = refl
implied_is (StmtKind-F.Switch e groups) = refl

-- ---- how the program stands in the graph

module _ (g : Graph) (whole : Ground) (base top : ℕ → ℕ) (Reached : ℕ → Type 0) where
  abbrev p : Program
  p = whole.setting.program

  abbrev ground : ℕ → Ground
  ground f = run.ground g whole base top p.nodes Reached f

  -- a function that is reached: its objects, what it calls, and where its operations stand
  pub record FunctionStands (f : ℕ) (fn : Function) (is_main : Bool) : Type 0 where
    pub owns : OwnsTemporaries (ground f)
    pub parameters : AreParameters (ground f) fn.params
    pub local : OwnOnce (ground f) (lowered_stmt (run.within g whole base top p.nodes Reached f is_main) fn.body).locals
    pub called : Each (run.May g whole base top p.nodes Reached f) (lowered_stmt (run.within g whole base top p.nodes Reached f is_main) fn.body).callees
    pub singles : (o : ℕ) → base f ≤ o → o < top f → whole.is_single o ≡ true
    pub apart : is_main ≡ false → fn.result ≢ None → IsApart (ground f) (λ x. whole.has_object x ≡ true) (result_home whole.setting f)
    pub counts : Counts
    pub low : base f ≤ counts.temp
    pub high : (graph.body (run.within g whole base top p.nodes Reached f is_main) fn counts).counts.temp ≤ top f
    pub stands : Stand g around_body (graph.body (run.within g whole base top p.nodes Reached f is_main) fn counts).items
    pub entered : entry g (place_of whole.setting f) ≡ first_of (laid_items (graph.body (run.within g whole base top p.nodes Reached f is_main) fn counts).items) 0

  -- the program: its variables' objects, its functions, and how the objects begin
  pub record ProgramStands : Type 0 where
    pub differ : HomesDiffer whole
    pub globals : (x : ℕ) → whole.has_object x ≡ true → whole.owner (home whole.setting x) ≡ None → is_global whole.setting x ≡ true
    pub file : (x : ℕ) → is_global whole.setting x ≡ true → (whole.has_object x ≡ true) × (whole.owner (home whole.setting x) ≡ None)
    pub main : Function
    pub found : slice_get p.functions p.main ≡ Some main
    pub reached : Reached p.main
    pub functions : (f : ℕ) (fn : Function) (is_main : Bool) → is_main ≡ (f == p.main) → slice_get p.functions f ≡ Some fn → Reached f → FunctionStands f fn is_main
    pub numbered : g.main ≡ place_of whole.setting p.main
    pub begins : (objects : Words) (input : List ℕ) (n : ℕ) → Begin g.objects objects
        → Agrees (ground p.main) (run.inner g whole base top p.nodes Reached p.main) (meant.start p input n) (flow.start g objects input) × Ready (ground p.main) objects

  module _ (sound : IsSound p) (names : IsScoped p) (stands : ProgramStands) where
    grounded : (f : ℕ) → OwnsTemporaries (ground f) → Grounded (ground f)
    grounded f owns = record { variables = sound.variables; owns = owns; differ = stands.differ; globals = stands.globals; file = stands.file }

    few : (f : ℕ) (fn : Function) → slice_get p.functions f ≡ Some fn → stmt_nodes p fn.body + implied_nodes (out-StmtKind fn.body.kind) ≤ p.nodes
    few f fn found = omega (arith, few_at p p.functions f fn found, sound.nodes)

    pub some : 1 ≤ p.nodes
    some = omega (arith, few p.main stands.main stands.found, count.stmt_level p stands.main.body)

    in_of : (f : ℕ) → (fn : Function) (is_main : Bool) → slice_get p.functions f ≡ Some fn → (P : (ℕ → Type 0) → Type 0) → P (BodyScope whole.setting fn.params) → P (run.inner g whole base top p.nodes Reached f)
    in_of f fn is_main found P h = subst P (sym (ap (λ o. BodyScope whole.setting (params_in o)) found)) h

    placed : (f : ℕ) (fn : Function) (is_main : Bool) → slice_get p.functions f ≡ Some fn → FunctionStands f fn is_main → run.Placed g whole base top p.nodes Reached f fn is_main
    placed f fn is_main found at = record {
      grounded = grounded f at.owns;
      parameters = at.parameters;
      singles = at.singles;
      small = omega (arith, few f fn found, implied_is (out-StmtKind fn.body.kind));
      result = λ e ne. let h = at.apart e ne in record { own = h.own; before = h.before; single = h.single; apart = λ x is. h.apart x (homes x is).0 };
      counts = at.counts;
      low = at.low;
      high = at.high;
      stands = at.stands;
      entered = at.entered;
    }
      where
        homes : HasHomes (ground f) (run.inner g whole base top p.nodes Reached f)
        homes = in_of f fn is_main found (λ S. HasHomes (ground f) S) (body_covers (ground f) fn.params (grounded f at.owns) at.parameters).homes

    known : AllKnown g whole base top p.nodes Reached some
    known f fn is_main main found reached = record {
      grounded = grounded f at.owns;
      good = record {
        typed = fits_at p p.functions f fn sound.functions found;
        fits = scoped_at (globals_from 0 p.variables) p.functions f fn names.names found;
        called = at.called;
        local = at.local;
      };
      apart = at.apart;
      few = omega (arith, few f fn found);
      parameters = at.parameters;
    }
      where
        at : FunctionStands f fn is_main
        at = stands.functions f fn is_main main found reached

    -- the graph does what the program means
    pub lowered_sound : AreBounded p → IsLowered p g
    lowered_sound bounds = lowered_main g whole base top Reached sound bounds (record {
      main = stands.main;
      found = stands.found;
      reached = stands.reached;
      placed_main = placed p.main stands.main true stands.found (stands.functions p.main stands.main true (sym ((Decides-eqb p.main p.main).1 refl)) stands.found stands.reached);
      placed = λ f fn found reached lower. placed f fn false found (stands.functions f fn false (run.no_main g whole base top p.nodes Reached f lower) found reached);
      numbered = stands.numbered;
      begins = stands.begins;
    }) (bodies_track g whole base top p.nodes Reached some known)
