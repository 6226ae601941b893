use Rattle.std.proofs.Common.{[], ◌∷◌, ℕ, List, length, length-append, ap, subst, sym, arith}
use Rattle.call_summary.specs.declared.telling.Summary.{Summary}
use Rattle.call_summary.specs.Summaries.{TellTouched, TellsTouched}
use Rattle.call_summary.proofs.Listing.{costs_more, tell_more}
use Rattle.call_summary.proofs.telling.with_costs.Goals as goal

pub loop-cost-preserved : goal.loop-cost-preserved
loop-cost-preserved c =
    let made = c.loop-cost.made.items in let one = c.in_ok-one.one in let longer = c.in_ok-put_summary.ensures in
    record {
      told = costs_more made c.put_summary.new.summaries.items one c.in-Some.cost.now c.loop-cost.left.now c.in-Some.rest.now c.args.costs.now longer c.in_ok-one.ensures.cost c.in-Some.ensures c.loop-cost.invariant.told;
      touched = subst (λ (xs : List Summary). TellTouched c.args.g.now xs) (sym longer)
          (tell_more c.args.g.now made one c.loop-cost.invariant.touched
          (subst (λ (n : ℕ). TellsTouched c.args.g.now n one) (sym c.loop-cost.invariant.so_many) c.in_ok-one.ensures.touched));
      so_many = let l = ap length longer in let n = length-append made (one ∷ []) in let m = c.loop-cost.invariant.so_many in omega (arith, l, n, m);
      places = let h = ap length c.in-Some.ensures in let n = c.loop-cost.invariant.places in omega (arith, h, n);
    }
