-- A plan as the code has it, and how what stands in its way is told.
use Rattle.checkpoint_graph.specs.declared.placing.PlanFault.{PlanFault}
use Rattle.checkpoint_graph.specs.declared.placing.PlanFault.TheVariants.{BudgetTooSmall, Memory}
use Rattle.job_files.specs.Answers.{Answer, no_memory, refused}
use Rattle.job_files.specs.Refusals.{budget_too_small}
use Rattle.plan_job.specs.Plan.{Plan}
use Rattle.plan_job.specs.declared.job.PlanJob.{PlanJob}

abbrev pub plan_named : PlanJob → Plan
plan_named j = record { program = j.program.now; board = j.board.now; budget = j.budget }

abbrev pub answer_of_plan : PlanFault → Answer
answer_of_plan (BudgetTooSmall op place need budget) = refused (budget_too_small op place need budget)
answer_of_plan Memory = no_memory
