-- Assignments with an operator as they are lowered, and every action.
use Rattle.std.proofs.Common.{◌≡◌, ◌≢◌, ℕ, suc, ◌+◌, ◌^◌, ◌<◌, ◌≤◌, Bool, true, false, Option, Some, None, [], refl, sym, ap, ◌∙◌, subst, arith}
use Rattle.std.specs.Prelude.{◌&&◌, if◌then◌else◌, slice_index_or}
use Rattle.base_io.specs.declared.place.Place.{Place}
use Rattle.c_values.specs.declared.ops.Ty.{Ty}
use Rattle.c_values.specs.declared.ops.BinaryOp.{BinaryOp}
use Rattle.c_values.specs.declared.ops.BinaryOp.TheVariants as binary
use Rattle.c_values.specs.Values.{Worked, Gives, Traps}
use Rattle.c_tree.specs.declared.tree.Expr.{Expr}
use Rattle.c_tree.specs.declared.tree.Target.{Target}
use Rattle.c_tree.specs.declared.tree.Action.{Action}
use Rattle.c_tree.specs.declared.tree.Action.TheVariants as action
use Rattle.c_tree.specs.Runs.{Done, Part, read, read_at, write, write_at}
use Rattle.c_tree.specs.Nodes.{type_of, amount_type, value_or, updated_by, update_by, act_by}
use Rattle.sound_programs.specs.Counted.{expr_nodes, opt_nodes, update_nodes, action_nodes}
use Rattle.flow_graph.specs.declared.graph.Graph.{Graph}
use Rattle.flow_graph.specs.declared.graph.OpKind.{OpKind}
use Rattle.flow_graph.specs.declared.graph.OpKind.TheVariants as kind
use Rattle.flow_graph.specs.declared.graph.Operand.{Operand}
use Rattle.flow_graph.specs.declared.graph.Operand.TheVariants.{Const, Object}
use Rattle.lowered_graphs.specs.Making as making
use Rattle.lowered_graphs.specs.Making.{Counts, Emit, Made, made_on, zero_operand, op_of, copy_into, store_into}
use Rattle.lowered_graphs.specs.Operators.{make_some, make_conversion, make_binary, conversion_kind}
use Rattle.lowered_graphs.specs.Exprs.{home, is_global, array_use, lowered, calls, full, read_scalar, load}
use Rattle.lowered_graphs.specs.Stmts.{calls_in, right_side, finish_update, update, act}
use Rattle.lowered_meaning.specs.Tracks.{Tracks}
use Rattle.lowered_meaning.specs.Keeps.{Ground, StaysBy, IsHomeBy, OwnsTemporaries, Evaluated}
use Rattle.lowered_meaning.specs.Leaves.{Since}
use Rattle.lowered_meaning.proofs.RunLemmas.{behind_none}
use Rattle.lowered_meaning.proofs.TrackLemmas.{tracks_weaker, tracks_none}
use Rattle.lowered_meaning.proofs.SinceLemmas.{since_start, since_both, since_expr}
use Rattle.lowered_meaning.proofs.ShapeLemmas.{tracks_made, made_stays, is_copy}
use Rattle.lowered_meaning.proofs.ElementSteps.{expr_then}
use Rattle.lowered_meaning.proofs.ElementLoads.{tracks_load}
use Rattle.lowered_meaning.proofs.AssignStores.{Storable, tracks_copied, tracks_stored}
use Rattle.lowered_meaning.proofs.AssignActions.{DoesAct, ExprOk, OptOk, value_act, assign_act}
use Rattle.lowered_meaning.proofs.AssignUpdates.{Loads, IsRight, StoresIn, update_core, binary_temp}
use Rattle.lowered_meaning.proofs.WordsSame.{IsWide}
use Rattle.lowered_meaning.proofs.WordsTable.{is_idle}

some_up : (k : Option OpKind) (x : Operand) (at : Place) (c : Counts) → c.temp ≤ (make_some k x at c).counts.temp
some_up None x at c = omega arith
some_up (Some k) x at c = omega arith

module _ (g : Graph) (w : Ground) (scope : ℕ → Type 0) (most x : ℕ) (owns : OwnsTemporaries w) (can : Storable w scope x) where
  -- ---- the value read

  loads_scalar : (at : Place) (later : Bool) → (w.owner (home w.setting x) ≡ None → is_global w.setting x ≡ true) → Loads g w scope most owns can.homes later zero_operand 0 (read x) (read_scalar w.setting x at later)
  loads_scalar at later global = by_case (later && is_global w.setting x) refl
    where
      stays_in : (m : Option ℕ) → w.owner (home w.setting x) ≡ m → IsHomeBy w (home w.setting x) m → (later && is_global w.setting x) ≡ false → (c : Counts) → w.base ≤ c.temp → StaysBy w later c.temp (home w.setting x) m
      stays_in None e h q c le = by_later later (sym (ap (λ b. later && b) (global e)) ∙ q)
        where
          by_later : (l : Bool) → (l && true) ≡ false → l ≡ false
          by_later true e = e
          by_later false e = refl
      stays_in (Some m) e h q c le = (h.0, omega (arith, h.1, le))

      word_of : Worked → ℕ
      word_of (Gives n) = n
      word_of (Traps t) = 0

      by_case : (b : Bool) → (later && is_global w.setting x) ≡ b
          → Loads g w scope most owns can.homes later zero_operand 0 (read x) (if b then making.make_of kind.Copy (Object (home w.setting x)) zero_operand at else making.pure (Object (home w.setting x)))
      by_case true e = record {
        grows = λ c. omega arith;
        stays = λ c le top. made_stays w later (λ t. op_of kind.Copy (Some t) (Object (home w.setting x)) zero_operand None at) owns c le top;
        tracks = λ c k s d a o le top agrees ready index. tracks_weaker g most a (a + most) (suc o) o a a (suc o) o (read x d) k (making.make_of kind.Copy (Object (home w.setting x)) zero_operand at c).items s
            (Evaluated w scope false c.temp (Object c.temp) s d) (Evaluated w scope false c.temp (Object c.temp) s d) (omega arith) (omega arith) (omega arith) (omega arith) (λ v e' z r. r)
            (tracks_made g w scope most false (λ t. op_of kind.Copy (Some t) (Object (home w.setting x)) zero_operand None at) (Gives (slice_index_or (slice_index_or d.store x []) 0 0)) c k s d a o owns can.homes le top agrees ready is_copy refl
            (ap (λ ws. Gives (slice_index_or ws 0 0)) (agrees.variables x can.is))
            (λ n q. subst (λ m. m < 2 ^ 16) (ap (λ ws. slice_index_or ws 0 0) (agrees.variables x can.is) ∙ ap word_of q) (agrees.fit (home w.setting x) 0)));
      }
      by_case false e = record {
        grows = λ c. omega arith;
        stays = λ c le top. stays_in (w.owner (home w.setting x)) refl (can.homes x can.is).1 e c le;
        tracks = λ c k s d a o le top agrees ready index. tracks_weaker g most a a (suc o) (suc o) a a (suc o) o (read x d) k [] s
            (Evaluated w scope false c.temp (Object (home w.setting x)) s d) (Evaluated w scope false c.temp (Object (home w.setting x)) s d) (omega arith) (omega arith) (omega arith) (omega arith) (λ v e' z r. r)
            (tracks_none g most a (suc o) (slice_index_or (slice_index_or d.store x []) 0 0) d k s (Evaluated w scope false c.temp (Object (home w.setting x)) s d)
            (record { value = ap (λ ws. slice_index_or ws 0 0) (agrees.variables x can.is); agrees = agrees; kept = λ i fixed. refl; shape = λ i. refl; store = λ i fixed. refl }));
      }

  loads_element : (at : Place) (later : Bool) (i : Operand) (iv : ℕ) (ty : Ty) → iv < 2 ^ 16 → Loads g w scope most owns can.homes later i iv (read_at x ty iv) (load w.setting x i at)
  loads_element at later i iv ty fits = record {
    grows = λ c. omega arith;
    stays = λ c le top. made_stays w later (λ t. op_of kind.Load (Some t) i zero_operand (Some (array_use w.setting x)) at) owns c le top;
    tracks = λ c k s d a o le top agrees ready index. tracks_weaker g most a (a + most) (suc o) o a a (suc o) o (read_at x ty iv d) k (load w.setting x i at c).items s
        (Evaluated w scope false c.temp (Object c.temp) s d) (Evaluated w scope false c.temp (Object c.temp) s d) (omega arith) (omega arith) (omega arith) (omega arith) (λ v e' z r. r)
        (tracks_load g w scope most x iv ty false i at c k s d a o owns can.homes can.is can.small le top agrees ready index fits);
  }

  -- ---- the store

  stores_scalar : (at : Place) (i : Operand) (iv : ℕ) → StoresIn g w scope most owns can.homes i iv (write x) (λ b. copy_into (home w.setting x) b at)
  stores_scalar at i iv = record {
    same = λ b c. refl;
    tracks = λ b v c k s d a o agrees ready value fits index. tracks_weaker g most a (a + most) (suc o) o a a (suc o) o (write x v d) k (copy_into (home w.setting x) b at c).items s (λ u e z. Since w scope s d e z) (λ u e z. Since w scope s d e z)
        (omega arith) (omega arith) (omega arith) (omega arith) (λ u e z r. r) (tracks_copied g w scope most x can b at c k s d v a o agrees ready value fits);
  }

  stores_element : (at : Place) (i : Operand) (iv : ℕ) (ty : Ty) → iv < 2 ^ 16 → StoresIn g w scope most owns can.homes i iv (write_at x ty iv) (λ b. store_into (array_use w.setting x) b i at)
  stores_element at i iv ty fiti = record {
    same = λ b c. refl;
    tracks = λ b v c k s d a o agrees ready value fits index. tracks_weaker g most a (a + most) (suc o) o a a (suc o) o (write_at x ty iv v d) k (store_into (array_use w.setting x) b i at c).items s (λ u e z. Since w scope s d e z) (λ u e z. Since w scope s d e z)
        (omega arith) (omega arith) (omega arith) (omega arith) (λ u e z r. r) (tracks_stored g w scope most x can b i ty at c k s d v iv a o agrees ready value fits index fiti);
  }

  module _ (f : Expr → Part ℕ) where
    -- ---- the right side

    is_right : (by : Option Expr) → OptOk g w scope most f by → IsRight g w scope most owns can.homes (calls_in w.setting by) (opt_nodes by) (value_or f 1 by) (right_side w.setting by)
    is_right None ok = record {
      grows = λ c. omega arith;
      stays = λ c le top. omega arith;
      tracks = λ c k s d a o le top agrees ready. tracks_weaker g most a a o o (a + 0) a o o (Done [] 1 d) k [] s (Evaluated w scope false c.temp (Const 1) s d) (Evaluated w scope false c.temp (Const 1) s d)
          (omega arith) (omega arith) (omega arith) (omega arith) (λ v e z r. r)
          (tracks_none g most a o 1 d k s (Evaluated w scope false c.temp (Const 1) s d) (record { value = refl; agrees = agrees; kept = λ i fixed. refl; shape = λ i. refl; store = λ i fixed. refl }));
    }
    is_right (Some e) ok = record {
      grows = (ok false).grows;
      stays = (ok false).stays;
      tracks = λ c k s d a o le top agrees ready. tracks_weaker g most (a + expr_nodes e) a o (suc o) (a + expr_nodes e) a o o (f e d) k (full w.setting e c).items s
          (Evaluated w scope (calls (lowered w.setting e)) c.temp (full w.setting e c).value s d) (Evaluated w scope (calls (lowered w.setting e)) c.temp (full w.setting e c).value s d)
          (omega arith) (omega arith) (omega arith) (omega arith) (λ v e' z r. r) ((ok false).tracks c le top k s d a o agrees ready);
    }

    -- ---- assignments with an operator as they are lowered

    -- what the types owe
    pub record WorksIn (own ty : Ty) (op : BinaryOp) (by : Option Expr) : Type 0 where
      pub wide : IsWide ty
      pub amount : IsWide (amount_type ty by)
      pub no_and : op ≢ binary.And
      pub no_or : op ≢ binary.Or
      pub to : is_idle ty own ≡ false
      pub from : is_idle own ty ≡ false

    abbrev own : Ty
    own = type_of w.setting.program x

    abbrev target : Option Expr → Place → Target
    target index place = record { variable = x; index = index; place = place }

    pub update_act : (index : Option Expr) (place at : Place) (op : BinaryOp) (ty : Ty) (by : Option Expr) → WorksIn own ty op by → (w.owner (home w.setting x) ≡ None → is_global w.setting x ≡ true)
        → OptOk g w scope most f index → OptOk g w scope most f by
        → DoesAct g w scope scope most (opt_nodes index + (opt_nodes by + update_nodes own ty)) (update_by own f x index op ty by) (update w.setting (target index place) at op ty by)
    update_act None place at op ty by works global ok right = λ c le top k s d a o agrees ready.
        subst (λ r. Tracks g most (a + (0 + (opt_nodes by + update_nodes own ty))) a o o r k (update w.setting (target None place) at op ty by c).items s (λ u e z. Since w scope s d e z))
        (sym (behind_none (updated_by own f x None op ty by 0 d)))
        (tracks_weaker g most (a + (update_nodes own ty + opt_nodes by)) a o o (a + (0 + (opt_nodes by + update_nodes own ty))) a o o (updated_by own f x None op ty by 0 d) k (update w.setting (target None place) at op ty by c).items s
        (λ u e z. Since w scope s d e z) (λ u e z. Since w scope s d e z) (omega arith) (omega arith) (omega arith) (omega arith) (λ u e z r. r)
        (update_core g w scope most owns can.homes (calls_in w.setting by) (opt_nodes by) own ty (amount_type ty by) op at zero_operand 0 (read x) (value_or f 1 by) (write x)
        (read_scalar w.setting x place (calls_in w.setting by)) (right_side w.setting by) (λ b. copy_into (home w.setting x) b place) works.wide works.amount works.no_and works.no_or works.to works.from
        (loads_scalar place (calls_in w.setting by) global) (is_right by right) (stores_scalar place zero_operand 0) c k s d a o (omega arith) le top agrees ready refl))
    update_act (Some i) place at op ty by works global ok right = λ c le top k s d a o agrees ready.
        let m : Made Operand = (lowered w.setting i).emit (calls_in w.setting by) c in
        tracks_weaker g most (a + (update_nodes own ty + opt_nodes by) + expr_nodes i) a o o (a + (expr_nodes i + (opt_nodes by + update_nodes own ty))) a o o (update_by own f x (Some i) op ty by d) k (update w.setting (target (Some i) place) at op ty by c).items s
        (λ u e z. Since w scope s d e z) (λ u e z. Since w scope s d e z) (omega arith) (omega arith) (omega arith) (omega arith) (λ u e z r. r)
        (expr_then g w scope most (expr_nodes i) (calls (lowered w.setting i)) (calls_in w.setting by) (f i) ((lowered w.setting i).emit (calls_in w.setting by)) (updated_by own f x (Some i) op ty by) rest c k s d
        (a + (update_nodes own ty + opt_nodes by)) a o o (λ u e z. Since w scope s d e z) (ok (calls_in w.setting by)) le (omega (arith, top, rest_grows m.value m.counts)) agrees ready
        (λ v e z cs ready1 fits r. let since : Since w scope s d e z = since_expr w scope (calls (lowered w.setting i)) c.temp m.value s d d e v s z (since_start w scope s d agrees ready) cs r in
        let fv : v < 2 ^ 16 = subst (λ n. n < 2 ^ 16) r.value fits in
        tracks_weaker g most (a + (update_nodes own ty + opt_nodes by)) a (suc o) (suc o) (a + (update_nodes own ty + opt_nodes by)) a (suc o) o (updated_by own f x (Some i) op ty by v e) k (rest m.value m.counts).items z
        (λ u e' z'. Since w scope z e e' z') (λ u e' z'. Since w scope s d e' z') (omega arith) (omega arith) (omega arith) (omega arith) (λ u e' z' q. since_both w scope scope s d e e' z z' since q)
        (update_core g w scope most owns can.homes (calls_in w.setting by) (opt_nodes by) own ty (amount_type ty by) op at m.value v (read_at x i.ty v) (value_or f 1 by) (write_at x i.ty v)
        (load w.setting x m.value place) (right_side w.setting by) (λ b. store_into (array_use w.setting x) b m.value place) works.wide works.amount works.no_and works.no_or works.to works.from
        (loads_element place (calls_in w.setting by) m.value v i.ty fv) (is_right by right) (stores_element place m.value v i.ty fv) m.counts k z e a (suc o)
        ((ok (calls_in w.setting by)).stays c le (omega (arith, top, rest_grows m.value m.counts))) (omega (arith, le, (ok (calls_in w.setting by)).grows c)) top r.agrees ready1 r.value)))
      where
        rest : Operand → Emit (Unit {0})
        rest v c = made_on (load w.setting x v place c) (λ y c1. made_on (make_conversion ty own y at c1) (λ z c2. made_on (right_side w.setting by c2) (λ r. finish_update w.setting (target (Some i) place) at op ty v z r)))

        rest_grows : (v : Operand) (c : Counts) → c.temp ≤ (rest v c).counts.temp
        rest_grows v c = omega (
          arith,
          some_up (conversion_kind ty own) (Object c.temp) at loaded,
          (is_right by right).grows converted_,
          (binary_temp g w scope most owns can.homes op ty converting.value sided.value at sided.counts).0,
          some_up (conversion_kind own ty) worked.value at worked.counts,
        )
          where
            loaded : Counts
            loaded = (load w.setting x v place c).counts

            converting : Made Operand
            converting = make_conversion ty own (Object c.temp) at loaded

            converted_ : Counts
            converted_ = converting.counts

            sided : Made Operand
            sided = right_side w.setting by converted_

            worked : Made Operand
            worked = make_binary op ty converting.value sided.value at sided.counts

-- ---- every action

-- what an action owes: that its expressions do what they mean, and that its variable may be stored in
abbrev pub ActFits : (g : Graph) (w : Ground) (scope : ℕ → Type 0) (most : ℕ) (f : Expr → Part ℕ) → OwnsTemporaries w → Action → Type 0
ActFits g w scope most f owns (action.Value e) = ExprOk g w scope most f e
ActFits g w scope most f owns (action.Assign to e) = Storable w scope to.variable × OptOk g w scope most f to.index × ExprOk g w scope most f e
ActFits g w scope most f owns (action.Update to at op ty by) =
    (can : Storable w scope to.variable) × WorksIn g w scope most to.variable owns can f (type_of w.setting.program to.variable) ty op by
    × (w.owner (home w.setting to.variable) ≡ None → is_global w.setting to.variable ≡ true) × OptOk g w scope most f to.index × OptOk g w scope most f by

pub act_tracked : (g : Graph) (w : Ground) (scope : ℕ → Type 0) (most : ℕ) (f : Expr → Part ℕ) (owns : OwnsTemporaries w) (a : Action) → ActFits g w scope most f owns a
    → DoesAct g w scope scope most (action_nodes w.setting.program a) (act_by w.setting.program f a) (act w.setting a)
act_tracked g w scope most f owns (action.Value e) ok = value_act g w scope most (expr_nodes e) (calls (lowered w.setting e)) false (f e) (full w.setting e) (ok false)
act_tracked g w scope most f owns (action.Assign to e) ok = assign_act g w scope most f to e ok.0 ok.1 ok.2
act_tracked g w scope most f owns (action.Update to at op ty by) ok = update_act g w scope most to.variable owns ok.0 f to.index to.place at op ty by ok.1 ok.2 ok.3 ok.4
