-- How a run of an image ends beside what the plain meaning of its program says.
use Rattle.std.proofs.Common.{◌≡◌, ℕ, List, Option, Result, Ok, Err, sym, subst, ap, ◌∙◌}
use Rattle.std.specs.Prelude.{◌≢◌, IfOk}
use Rattle.base_io.specs.declared.sink.SinkFault.{SinkFault}
use Rattle.msp430_machine.specs.State.{Phase, Ended as AtEnd, Faulted, Trapped as AtTrap}
use Rattle.msp430_machine.specs.declared.answer.Refill.{Refill}
use Rattle.msp430_machine.specs.declared.answer.Why.{Why}
use Rattle.plain_meaning.specs.Behaviour.{Going, Meaning}
use Rattle.power_core.specs.Agreement.{IsStopped, StopsAs}
use Rattle.power_core.specs.Runs.{Trail}
use Rattle.program_texts.specs.Shown.{end_of}
use Rattle.supplied_run.specs.Shown.{Puts}
use Rattle.supplied_run.specs.declared.end.End.{End}
use Rattle.supplied_run.specs.declared.end.End.TheVariants.{Ended, Trapped, PowerFault, SupplyEnded, StepLimit, MachineFault, SupplyFault}
use Rattle.run_and_say.specs.RunAndSay.{EndsAlike}
use Rattle.run_and_say.proofs.Fronts.{ends_so, not_going, traps_so}

-- What is known of a run that came to this trail: it has put the words of a meaning, and if it stopped, it stopped so; the meaning is that of
-- the say, where both have stopped; it stopped neither by a power fault nor by a fault of the machine.
pub record Known (t : Trail) (done said : Meaning) : Type 0 where
  pub words : t.put ≡ done.words
  pub stops : IsStopped t.state.phase → StopsAs done.outcome t.state.phase
  pub same : done.outcome ≢ Going → said.outcome ≢ Going → done ≡ said
  pub no_power_fault : t.state.phase ≢ AtTrap 4
  pub no_fault : (why : Why) → t.state.phase ≢ Faulted why

stopped_so : (t : Trail) (done said : Meaning) (p : Phase) → Known t done said → t.state.phase ≡ p → IsStopped p → StopsAs done.outcome p
stopped_so t done said p k is stopped = subst (StopsAs done.outcome) is (k.stops (subst IsStopped (sym is) stopped))

alike : (t : Trail) (done said : Meaning) (p : Phase) (e : End) → Known t done said → StopsAs done.outcome p → end_of done.outcome ≡ e
    → said.outcome ≢ Going → (t.put ≡ said.words) × (end_of said.outcome ≡ e)
alike t done said p e k stops is ended =
    let same : done ≡ said = k.same (not_going done.outcome p stops) ended in
    (k.words ∙ ap (λ (m : Meaning). m.words) same, ap (λ (m : Meaning). end_of m.outcome) (sym same) ∙ is)

pub ends_alike : (limit : ℕ) (left : List Refill) (t : Trail) (told : Result End SinkFault) (old new : Option (List ℕ)) (done said : Meaning)
    → Known t done said → Puts limit left t told old new → IfOk told (EndsAlike t.put said)
ends_alike limit left t (Err fault) old new done said k puts = tt
ends_alike limit left t (Ok (Ended w)) old new done said k puts =
    let stops = stopped_so t done said (AtEnd w) k puts.0 tt in
    alike t done said (AtEnd w) (Ended w) k stops (ends_so done.outcome w stops)
ends_alike limit left t (Ok (Trapped n)) old new done said k puts =
    let stops = stopped_so t done said (AtTrap n) k puts.0.0 tt in
    alike t done said (AtTrap n) (Trapped n) k stops (traps_so done.outcome n stops)
ends_alike limit left t (Ok PowerFault) old new done said k puts = k.no_power_fault puts.0
ends_alike limit left t (Ok SupplyEnded) old new done said k puts = tt
ends_alike limit left t (Ok StepLimit) old new done said k puts = tt
ends_alike limit left t (Ok (MachineFault pc why)) old new done said k puts = k.no_fault why puts.0.0
ends_alike limit left t (Ok SupplyFault) old new done said k puts = tt
