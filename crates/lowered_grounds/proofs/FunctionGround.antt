-- How a reached function stands in the graph: its objects, what it calls, and its operations.
use Rattle.std.proofs.Common.{◌≡◌, ◌≢◌, ℕ, ◌+◌, ◌-◌, ◌<◌, ◌≤◌, Bool, true, false, Some, None, List, [], ◌∷◌, refl, sym, ap, subst, ◌∙◌, arith}
use Rattle.std.specs.Prelude.{◌==◌, is_some, slice_get}
use Rattle.std.proofs.lemmas.Bool.{and_parts, eq-eqb}
use Rattle.c_tree.specs.declared.tree.Function.{Function}
use Rattle.c_tree.specs.declared.tree.Program.{Program}
use Rattle.sound_programs.specs.Sound.{is_parameter, parameters_fit}
use Rattle.sound_programs.specs.SoundPrograms.{IsSound}
use Rattle.sound_programs.specs.Scoped.{IsScoped, holds, locals}
use Rattle.flow_graph.specs.declared.graph.Graph.{Graph}
use Rattle.lowered_graphs.specs.Exprs.{home, is_global, result_home}
use Rattle.lowered_graphs.specs.Stmts.{lowered_stmt}
use Rattle.lowered_graphs.specs.GraphOf.{within_of, no_homes, function_callees, temporaries, objects_before, made_function, homes_of, graph_of}
use Rattle.lowered_graphs.specs.GraphOf as graph
use Rattle.lowered_meaning.specs.Keeps.{Ground, OwnsTemporaries}
use Rattle.lowered_meaning.proofs.CallsFalls.{IsApart}
use Rattle.lowered_meaning.proofs.CallsParameters.{AreParameters}
use Rattle.lowered_meaning.proofs.FitParts as meant
use Rattle.lowered_meaning.proofs.GoodStmts.{OwnOnce}
use Rattle.lowered_meaning.proofs.FunctionsRun as run
use Rattle.lowered_meaning.proofs.LoweredSound.{FunctionStands}
use Rattle.lowered_rules.proofs.EachLemmas.{Each, or_first, or_second}
use Rattle.lowered_rules.proofs.ThingLemmas.{Named, Result, Temporary}
use Rattle.lowered_rules.proofs.ThingsOf.{things}
use Rattle.lowered_rules.proofs.StmtTold.{locals_same}
use Rattle.lowered_rules.proofs.BodyTemps.{body_temps}
use Rattle.lowered_rules.proofs.PlaceLemmas.{before}
use Rattle.lowered_rules.proofs.Rising.{Rising, rising_right}
use Rattle.lowered_rules.proofs.Introduced.{introduced_by, introduced_at}
use Rattle.lowered_rules.proofs.FrameLemmas.{Callee, all_rising, callees_known, judged}
use Rattle.lowered_grounds.proofs.Introduced.{owner_from, owner_at, holds_left, holds_right}
use Rattle.lowered_grounds.proofs.InnerVariables.{parameter_one}
use Rattle.lowered_grounds.proofs.Stages.{Stage, stage_of}
use Rattle.lowered_grounds.proofs.BodyPlaces.{Body, body_stands}
use Rattle.lowered_grounds.proofs.Owners.{setting, owner_by, has_object, is_single_by, whole, base_in, base, temporaries_in, top, IsReached, named_at, has_named}

module _ (p : Program) (sound : IsSound p) (names : IsScoped p) where
  abbrev heights : List ℕ
  heights = sound.acyclic.0

  abbrev g : Graph
  g = graph_of p

  abbrev ground : ℕ → Ground
  ground n = run.ground g (whole p heights) (base p) (top p) p.nodes (IsReached p) n

  module _ (n : ℕ) (f : Function) (found : slice_get p.functions n ≡ Some f) (reached : IsReached p n) where
    stage : Stage p n f (objects_before p n f (before p n)) (graph.numbering p) (things p)
    stage = stage_of p sound names n f found reached

    base_is : base p n ≡ objects_before p n f (before p n)
    base_is = ap (base_in p n) found

    top_is : top p n ≡ objects_before p n f (before p n) + temporaries p n f
    top_is = let t : temporaries_in p n (slice_get p.functions n) ≡ temporaries p n f = ap (temporaries_in p n) found in omega (arith, base_is, t)

    -- ---- temporaries

    temporary_at : (o : ℕ) → base p n ≤ o → o < top p n → slice_get (things p) o ≡ Some (Temporary n)
    temporary_at o low high =
        let b : ℕ = objects_before p n f (before p n) in
        let is : b + (o - b) ≡ o = omega (arith, low, base_is) in
        subst (λ k. slice_get (things p) k ≡ Some (Temporary n)) is (stage.temporary (o - b) (omega (arith, low, high, base_is, top_is)))

    owns : OwnsTemporaries (ground n)
    owns o low high = ap (owner_by p) (temporary_at o low high)

    pub singles : (o : ℕ) → base p n ≤ o → o < top p n → is_single_by (slice_get (things p) o) ≡ true
    singles o low high = ap is_single_by (temporary_at o low high)

    -- ---- variables

    owner_is : (x : ℕ) → holds x (introduced_by f) ≡ true → owner_from 0 p.functions x ≡ Some n
    owner_is x held = let same : 0 + n ≡ n = omega arith in owner_at 0 p.functions n f x (all_rising p sound names) found held ∙ ap Some same

    has : (x : ℕ) → holds x (introduced_by f) ≡ true → has_object p x ≡ true
    has x held = has_named p x (stage.named x held) (or_second (is_global (setting p) x) (is_some (owner_from 0 p.functions x)) (ap is_some (owner_is x held)))

    owned : (x : ℕ) → holds x (introduced_by f) ≡ true → owner_by p (slice_get (things p) (home (setting p) x)) ≡ Some n
    owned x held = ap (owner_by p) (stage.named x held) ∙ owner_is x held

    low : (x : ℕ) → holds x (introduced_by f) ≡ true → home (setting p) x < base p n
    low x held = omega (arith, stage.low x held, base_is)

    parameters_stand : (xs : List ℕ) → parameters_fit p xs ≡ true → ((x : ℕ) → holds x xs ≡ true → holds x (introduced_by f) ≡ true) → AreParameters (ground n) xs
    parameters_stand [] fit h = tt
    parameters_stand (x ∷ xs) fit h =
        let q = and_parts (is_parameter (slice_get p.variables x)) (parameters_fit p xs) fit in
        let held = h x (or_first (x == x) (holds x xs) (eq-eqb x x refl)) in (
          record { has = has x held; own = owned x held; before = low x held; one = parameter_one (slice_get p.variables x) q.0 },
          parameters_stand xs q.1 (λ y k. h y (or_second (y == x) (holds y xs) k)),
        )

    locals_stand : (xs : List ℕ) → Rising xs → ((x : ℕ) → holds x xs ≡ true → holds x (introduced_by f) ≡ true) → OwnOnce (ground n) xs
    locals_stand [] rises h = tt
    locals_stand (x ∷ xs) rises h =
        let held = h x (or_first (x == x) (holds x xs) (eq-eqb x x refl)) in
        (record { has = has x held; own = owned x held; before = low x held }, over xs rises.0, locals_stand xs rises.1 (λ y k. h y (or_second (y == x) (holds y xs) k)))
      where
        over : (ys : List ℕ) → Each (λ y. x < y) ys → meant.Each (λ y. x ≢ y) ys
        over [] e = tt
        over (y ∷ ys) e = ((λ q. omega (arith, e.0, q)), over ys e.1)

    -- ---- the result

    result_apart : (n == p.main) ≡ false → f.result ≢ None → IsApart (ground n) (λ x. has_object p x ≡ true) (result_home (setting p) n)
    result_apart other ne = record {
      own = ap (owner_by p) (stage.result other ne);
      before = omega (arith, stage.result_low other ne, base_is);
      single = ap is_single_by (stage.result other ne);
      apart = λ x h e. differ x (sym (named_at p x h) ∙ (ap (slice_get (things p)) e ∙ stage.result other ne));
    }
      where
        differ : (x : ℕ) → Some (Named x) ≡ Some (Result n) → ⊥
        differ x e = cc

    -- ---- what is called

    abbrev May : ℕ → Type 0
    May m = run.May g (whole p heights) (base p) (top p) p.nodes (IsReached p) n m

    callees_may : (xs : List ℕ) → Each (Callee p sound names n) xs → meant.Each May xs
    callees_may [] h = tt
    callees_may (x ∷ xs) h = ((h.0.is_reached, h.0.lower), callees_may xs h.1)

    -- ---- the whole

    body : Body p n f
    body = body_stands p sound n f found reached

    stands_so : FunctionStands g (whole p heights) (base p) (top p) (IsReached p) n f (n == p.main)
    stands_so = record {
      owns = owns;
      parameters = parameters_stand f.params (judged p sound names n f found).params (λ x h. holds_left x f.params (locals f.body) h);
      local = subst (OwnOnce (ground n)) (sym (locals_same (within_of p (homes_of p) n) f.body))
          (locals_stand (locals f.body) (rising_right f.params (locals f.body) (introduced_at p.functions n f (all_rising p sound names) found)) (λ x h. holds_right x f.params (locals f.body) h));
      called = callees_may (lowered_stmt (within_of p (homes_of p) n) f.body).callees (callees_known p sound names (homes_of p) n f found reached);
      singles = singles;
      apart = result_apart;
      counts = record { op = body.op; temp = objects_before p n f (before p n) };
      low = omega (arith, base_is);
      high = omega (arith, top_is, body_temps p (homes_of p) n body.op (objects_before p n f (before p n)) f);
      stands = body.stands;
      entered = body.entered;
    }

    pub function_stands : (is_main : Bool) → is_main ≡ (n == p.main) → FunctionStands g (whole p heights) (base p) (top p) (IsReached p) n f is_main
    function_stands is_main e = subst (λ b. FunctionStands g (whole p heights) (base p) (top p) (IsReached p) n f b) (sym e) stands_so
