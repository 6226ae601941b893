-- Words, files and boxes decide one answer at most.
use Rattle.std.proofs.Common.{◌≡◌, List, None, subst, refl, inl, inr}
use Rattle.base_io.specs.Files.{Files}
use Rattle.job_parts.specs.Asked.{asked}
use Rattle.job_files.specs.Answers.{Answer, IsDecided, no_memory, not_built, usage, write_fault}
use Rattle.job_files.specs.Text.{Text}
use Rattle.build_job.specs.Build.{Build}
use Rattle.build_job.specs.Building.{BuildCauses}
use Rattle.build_job.proofs.OneBuild.{one_build_cause}
use Rattle.check_job.specs.Check.{Check}
use Rattle.check_job.specs.Checking.{CheckCauses}
use Rattle.check_job.proofs.OneCheck.{one_check_cause}
use Rattle.plan_job.specs.Plan.{Plan}
use Rattle.plan_job.specs.Planning.{PlanCauses}
use Rattle.plan_job.proofs.OnePlan.{one_plan_cause}
use Rattle.run_job.specs.Boxes.{Box}
use Rattle.run_job.specs.Run.{Run}
use Rattle.run_job.specs.Running.{RunCauses}
use Rattle.run_job.proofs.OneRun.{one_run_cause}
use Rattle.say_job.specs.Say.{Say}
use Rattle.say_job.specs.Saying.{SayCauses}
use Rattle.say_job.proofs.OneSay.{one_say_cause}
use Rattle.commands.specs.Causes.{AsksFor, HasCause}
use Rattle.commands.specs.Laws.{DecideOne}
use Rattle.commands.specs.Words.{AskBuild, AskCheck, AskPlan, AskRun, AskSay, AskUnbuilt}
use Rattle.commands.proofs.Asks.{asks_once, build_or_check, build_or_plan, build_or_run, build_or_say, check_asks_once, check_or_plan, one_build, one_check, one_plan, one_run, one_say, plan_asks_once, run_asks_once, run_or_check, run_or_plan, run_or_say, say_asks_once, say_or_check, say_or_plan, some_none}

data Decision (words : List Text) (files : Files) (boxes : List Box) : Answer → Type 0 where
  unread : asked words ≡ None → Decision words files boxes usage
  unbuilt : AskUnbuilt words → Decision words files boxes not_built
  build_asked : (job : Build) (a : Answer) → AskBuild words job → IsDecided a → BuildCauses job files a → Decision words files boxes a
  run_asked : (job : Run) (a : Answer) → AskRun words job → IsDecided a → RunCauses job files boxes a → Decision words files boxes a
  say_asked : (job : Say) (a : Answer) → AskSay words job → IsDecided a → SayCauses job files a → Decision words files boxes a
  check_asked : (job : Check) (a : Answer) → AskCheck words job → IsDecided a → CheckCauses job files a → Decision words files boxes a
  plan_asked : (job : Plan) (a : Answer) → AskPlan words job → IsDecided a → PlanCauses job files a → Decision words files boxes a

module _ (words : List Text) (files : Files) (boxes : List Box) where
  asks : (a : Answer) → IsDecided a → AsksFor words files boxes a → Decision words files boxes a
  asks a d (inl (job, e, h)) = build_asked job a e d h
  asks a d (inr (inl (job, e, h))) = run_asked job a e d h
  asks a d (inr (inr (inl (job, e, h)))) = say_asked job a e d h
  asks a d (inr (inr (inr (inl (job, e, h))))) = check_asked job a e d h
  asks a d (inr (inr (inr (inr (job, e, h))))) = plan_asked job a e d h

  decision : (a : Answer) → IsDecided a → HasCause words files boxes a → Decision words files boxes a
  decision usage d h = unread h
  decision not_built d h = unbuilt h
  decision no_memory d h = absurd d
  decision (write_fault name) d h = absurd d
  decision a d h = asks a d h

  one_decision : (a b : Answer) → Decision words files boxes a → Decision words files boxes b → a ≡ b
  one_decision _ _ (unread e) (unread f) = refl
  one_decision _ _ (unread e) (unbuilt f) = absurd (some_none (asked words) f.request f.asks e)
  one_decision _ _ (unread e) (build_asked job b f c k) = absurd (asks_once words job f (inl e))
  one_decision _ _ (unread e) (run_asked job b f c k) = absurd (run_asks_once words job f (inl e))
  one_decision _ _ (unread e) (say_asked job b f c k) = absurd (say_asks_once words job f (inl e))
  one_decision _ _ (unread e) (check_asked job b f c k) = absurd (check_asks_once words job f (inl e))
  one_decision _ _ (unread e) (plan_asked job b f c k) = absurd (plan_asks_once words job f (inl e))
  one_decision _ _ (unbuilt e) (unread f) = absurd (some_none (asked words) e.request e.asks f)
  one_decision _ _ (unbuilt e) (unbuilt f) = refl
  one_decision _ _ (unbuilt e) (build_asked job b f c k) = absurd (asks_once words job f (inr e))
  one_decision _ _ (unbuilt e) (run_asked job b f c k) = absurd (run_asks_once words job f (inr e))
  one_decision _ _ (unbuilt e) (say_asked job b f c k) = absurd (say_asks_once words job f (inr e))
  one_decision _ _ (unbuilt e) (check_asked job b f c k) = absurd (check_asks_once words job f (inr e))
  one_decision _ _ (unbuilt e) (plan_asked job b f c k) = absurd (plan_asks_once words job f (inr e))
  one_decision _ _ (build_asked job a e d h) (unread f) = absurd (asks_once words job e (inl f))
  one_decision _ _ (build_asked job a e d h) (unbuilt f) = absurd (asks_once words job e (inr f))
  one_decision _ _ (build_asked job a e d h) (build_asked also b f c k) =
      one_build_cause job files a b d c h (subst (λ p. BuildCauses p files b) (one_build words also job f e) k)
  one_decision _ _ (build_asked job a e d h) (run_asked also b f c k) = absurd (build_or_run words job also e f)
  one_decision _ _ (build_asked job a e d h) (say_asked also b f c k) = absurd (build_or_say words job also e f)
  one_decision _ _ (build_asked job a e d h) (check_asked also b f c k) = absurd (build_or_check words job also e f)
  one_decision _ _ (build_asked job a e d h) (plan_asked also b f c k) = absurd (build_or_plan words job also e f)
  one_decision _ _ (run_asked job a e d h) (unread f) = absurd (run_asks_once words job e (inl f))
  one_decision _ _ (run_asked job a e d h) (unbuilt f) = absurd (run_asks_once words job e (inr f))
  one_decision _ _ (run_asked job a e d h) (build_asked also b f c k) = absurd (build_or_run words also job f e)
  one_decision _ _ (run_asked job a e d h) (run_asked also b f c k) =
      one_run_cause job files boxes a b d c h (subst (λ p. RunCauses p files boxes b) (one_run words also job f e) k)
  one_decision _ _ (run_asked job a e d h) (say_asked also b f c k) = absurd (run_or_say words job also e f)
  one_decision _ _ (run_asked job a e d h) (check_asked also b f c k) = absurd (run_or_check words job also e f)
  one_decision _ _ (run_asked job a e d h) (plan_asked also b f c k) = absurd (run_or_plan words job also e f)
  one_decision _ _ (say_asked job a e d h) (unread f) = absurd (say_asks_once words job e (inl f))
  one_decision _ _ (say_asked job a e d h) (unbuilt f) = absurd (say_asks_once words job e (inr f))
  one_decision _ _ (say_asked job a e d h) (build_asked also b f c k) = absurd (build_or_say words also job f e)
  one_decision _ _ (say_asked job a e d h) (run_asked also b f c k) = absurd (run_or_say words also job f e)
  one_decision _ _ (say_asked job a e d h) (say_asked also b f c k) =
      one_say_cause job files a b d c h (subst (λ p. SayCauses p files b) (one_say words also job f e) k)
  one_decision _ _ (say_asked job a e d h) (check_asked also b f c k) = absurd (say_or_check words job also e f)
  one_decision _ _ (say_asked job a e d h) (plan_asked also b f c k) = absurd (say_or_plan words job also e f)
  one_decision _ _ (check_asked job a e d h) (unread f) = absurd (check_asks_once words job e (inl f))
  one_decision _ _ (check_asked job a e d h) (unbuilt f) = absurd (check_asks_once words job e (inr f))
  one_decision _ _ (check_asked job a e d h) (build_asked also b f c k) = absurd (build_or_check words also job f e)
  one_decision _ _ (check_asked job a e d h) (run_asked also b f c k) = absurd (run_or_check words also job f e)
  one_decision _ _ (check_asked job a e d h) (say_asked also b f c k) = absurd (say_or_check words also job f e)
  one_decision _ _ (check_asked job a e d h) (check_asked also b f c k) =
      one_check_cause job files a b d c h (subst (λ p. CheckCauses p files b) (one_check words also job f e) k)
  one_decision _ _ (check_asked job a e d h) (plan_asked also b f c k) = absurd (check_or_plan words job also e f)
  one_decision _ _ (plan_asked job a e d h) (unread f) = absurd (plan_asks_once words job e (inl f))
  one_decision _ _ (plan_asked job a e d h) (unbuilt f) = absurd (plan_asks_once words job e (inr f))
  one_decision _ _ (plan_asked job a e d h) (build_asked also b f c k) = absurd (build_or_plan words also job f e)
  one_decision _ _ (plan_asked job a e d h) (run_asked also b f c k) = absurd (run_or_plan words also job f e)
  one_decision _ _ (plan_asked job a e d h) (say_asked also b f c k) = absurd (say_or_plan words also job f e)
  one_decision _ _ (plan_asked job a e d h) (check_asked also b f c k) = absurd (check_or_plan words also job f e)
  one_decision _ _ (plan_asked job a e d h) (plan_asked also b f c k) =
      one_plan_cause job files a b d c h (subst (λ p. PlanCauses p files b) (one_plan words also job f e) k)

pub decide_one : DecideOne
decide_one words files boxes a b d e h k = one_decision words files boxes a b (decision words files boxes a d h) (decision words files boxes b e k)
