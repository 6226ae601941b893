use Rattle.std.proofs.Common.{◌∙◌, List, ap, subst}
use Rattle.call_summary.specs.declared.telling.Summary.{Summary}
use Rattle.chain_units.specs.declared.plan.Chain.{Chain}
use Rattle.checkpoint_graph.specs.Placings.{ArePlansOf}
use Rattle.plan_report.specs.Report.{report}
use Rattle.plan_report.proofs.planned.planned_report.Goals as goal

pub returns-in-Ok-report-clause-told : goal.returns-in-Ok-report-clause-told
returns-in-Ok-report-clause-told c = record {
  live = c.in-Ok.found.live;
  is_live = c.in-Ok.ensures.live;
  summaries = c.in-Ok.found.summaries.items;
  are_summaries = c.in-Ok.ensures.summaries;
  chains = c.in_ok-placing.placing.chains.items;
  are_plans =
      subst (λ (s : List Summary). ArePlansOf c.args.g.now c.in-Ok.found.live s c.args.b.now c.in_ok-placing.placing.chains.items) c.as_slice.ensures.value c.in_ok-placing.ensures.plans;
  tells =
      c.in-Ok-report.ensures
      ∙ ap (λ (s : List Summary). report c.args.g.now s c.as_slice-3.result.now) c.as_slice-2.ensures.value
      ∙ ap (λ (cs : List Chain). report c.args.g.now c.in-Ok.found.summaries.items cs) c.as_slice-3.ensures.value;
}
