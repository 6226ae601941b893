-- The body of a function fits, and ends in its return.
use Rattle.std.proofs.Common.{◌≡◌, ℕ, ◌≤◌, Bool, true, false, Option, Some, None, List, [], ◌∷◌, ◌++◌, refl, sym, ap, subst, arith}
use Rattle.std.specs.Prelude.{if◌then◌else◌}
use Rattle.base_io.specs.declared.place.Place.{Place}
use Rattle.c_values.specs.declared.ops.Ty.{Ty}
use Rattle.c_tree.specs.declared.tree.StmtKind.{out-StmtKind}
use Rattle.c_tree.specs.declared.tree.BlockItem.TheOpen.{StmtKind-F}
use Rattle.c_tree.specs.declared.tree.Function.{Function}
use Rattle.c_tree.specs.Layer.{StmtLayer}
use Rattle.sound_programs.specs.Scoped.{scoped, in_body}
use Rattle.sound_programs.specs.Sound.{stmt_fits}
use Rattle.flow_graph.specs.declared.graph.OpKind.TheVariants as kind
use Rattle.flow_graph.specs.declared.graph.Item.{Item}
use Rattle.flow_graph.specs.Rules.{Where, Open, Returns, return_kind, is_kind}
use Rattle.lowered_graphs.specs.declared.positions.Position.TheVariants.{Body, LastOfBody}
use Rattle.lowered_graphs.specs.Making.{Counts, Made, nothing, one, plain, zero_operand}
use Rattle.lowered_graphs.specs.Exprs.{result_home}
use Rattle.lowered_graphs.specs.Stmts.{Within, lowered_stmt}
use Rattle.lowered_graphs.specs.GraphOf.{ends_by, return_zero, implied_return, implied, body}
use Rattle.lowered_rules.proofs.FitLemmas.{Ground, Fits, fits_none, fits_append, fits_one, writes_result}
use Rattle.lowered_rules.proofs.ExprFit.{zero_good, fits_copy}
use Rattle.lowered_rules.proofs.StmtGiven.{Given, InScope, W, at_end, stmt_ending, facts_of}
use Rattle.lowered_rules.proofs.StmtFit.{stmt_holds}

items_end : (xs : List Item) → xs ++ [] ≡ xs
items_end [] = refl
items_end (x ∷ xs) = ap (λ ys. x ∷ ys) (items_end xs)

body_end : (x : StmtLayer) → stmt_ending x Body ≡ at_end (ends_by x) LastOfBody
body_end (StmtKind-F.Block items) = refl
body_end StmtKind-F.Empty = refl
body_end (StmtKind-F.«StmtKind::Act» a) = refl
body_end StmtKind-F.Break = refl
body_end StmtKind-F.Continue = refl
body_end (StmtKind-F.Return e) = refl
body_end (StmtKind-F.If c x y) = refl
body_end (StmtKind-F.While c body) = refl
body_end (StmtKind-F.Do body c) = refl
body_end (StmtKind-F.For f c step body) = refl
body_end (StmtKind-F.Switch e groups) = refl

module _ (G : Ground) where
  abbrev pub body_where : Where
  body_where = record { in_main = G.is_main; breaks = false; continues = false; returns = true }

  abbrev V : Within
  V = W G

  finish : (at : Place) (c : Counts) → G.is_main ≡ true → Fits G None body_where Returns (one (plain kind.Finish zero_operand at) c).items
  finish at c m = fits_one G None body_where Returns (plain kind.Finish zero_operand at c.op) (record { dest = refl; a = zero_good G true; b = refl; array = refl; count = tt })
      (subst (λ b. is_kind kind.Finish (return_kind b) ≡ true) (sym m) refl) tt

  ret : (at : Place) (c : Counts) → G.is_main ≡ false → Fits G None body_where Returns (one (plain kind.Ret zero_operand at) c).items
  ret at c m = fits_one G None body_where Returns (plain kind.Ret zero_operand at c.op) (record { dest = refl; a = refl; b = refl; array = refl; count = tt })
      (subst (λ b. is_kind kind.Ret (return_kind b) ≡ true) (sym m) refl) tt

  zero : (ty : Option Ty) (at : Place) (c : Counts) → G.is_main ≡ false → G.result ≡ ty → Fits G None body_where Open (return_zero V ty at c).items
  zero None at c m r = fits_none G None body_where
  zero (Some ty) at c m r = fits_copy G None body_where (result_home G.setting G.function) zero_operand at c.op (G.own_result ty m r).0 (writes_result G None ty tt m r) (zero_good G true)

  fits_implied : (f : Function) → f.result ≡ G.result → (c : Counts) → Fits G None body_where Returns (implied V f c).items
  fits_implied f r c = by_main G.is_main refl
    where
      by_main : (b : Bool) → G.is_main ≡ b → Fits G None body_where Returns ((if b then one (plain kind.Finish zero_operand f.end) else implied_return V f) c).items
      by_main true m = finish f.end c m
      by_main false m = fits_append G None body_where Returns (return_zero V f.result f.end c).items _ (zero f.result f.end c m (sym r)) (ret f.end (return_zero V f.result f.end c).counts m)

  fits_ended : (f : Function) → f.result ≡ G.result → (b : Bool) (items : List Item) (c : Counts) → Fits G None body_where (at_end b LastOfBody) items → Fits G None body_where Returns (items ++ ((if b then nothing else implied V f) c).items)
  fits_ended f r true items c h = subst (Fits G None body_where Returns) (sym (items_end items)) h
  fits_ended f r false items c h = fits_append G None body_where Returns items _ h (fits_implied f r c)

  implied_temp : (f : Function) (b : Bool) (c : Counts) → ((if b then nothing else implied V f) c).counts.temp ≡ c.temp
  implied_temp f true c = refl
  implied_temp f false c = by_main G.is_main
    where
      zero_temp : (ty : Option Ty) → (return_zero V ty f.end c).counts.temp ≡ c.temp
      zero_temp None = refl
      zero_temp (Some ty) = refl

      by_main : (m : Bool) → ((if m then one (plain kind.Finish zero_operand f.end) else implied_return V f) c).counts.temp ≡ c.temp
      by_main true = refl
      by_main false = zero_temp f.result

  pub body_good : (f : Function) → f.result ≡ G.result → Given G None body_where (facts_of (lowered_stmt V f.body)) → (scope : List ℕ) → InScope G scope → stmt_fits G.setting.program G.result f.body ≡ true
      → (scoped f.body).fits in_body scope ≡ true → (c : Counts) → G.base ≤ c.temp → (body V f c).counts.temp ≤ G.top → Fits G None body_where Returns (body V f c).items
  body_good f r g scope in' typed fits c lo hi =
      let m : Made (Unit {0}) = (lowered_stmt V f.body).emit Body c in
      let same = implied_temp f (ends_by (out-StmtKind f.body.kind)) m.counts in
      fits_ended f r (ends_by (out-StmtKind f.body.kind)) m.items m.counts
      (subst (λ e. Fits G None body_where e m.items) (body_end (out-StmtKind f.body.kind)) (stmt_holds G f.body None body_where g scope in' in_body typed fits Body c lo (omega (arith, hi, same))))
