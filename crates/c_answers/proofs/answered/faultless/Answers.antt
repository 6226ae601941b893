use Rattle.std.proofs.Common.{◌≢◌, subst, List, Some, None}
use Rattle.c_typing.specs.declared.call_site.CallSite.{CallSite}
use Rattle.c_typing.specs.declared.type_fault.TypeFault.TheVariants as faults
use Rattle.c_typing.specs.Programs.{IsFirstCycle}
use Rattle.c_answers.proofs.OneAnswer.{recursive, accepted, lacking}
use Rattle.c_answers.proofs.answered.faultless.Goals as goal

pub returns-in-Ok-Some-clause-refuses : goal.returns-in-Ok-Some-clause-refuses
returns-in-Ok-Some-clause-refuses c = λ _. recursive c.args.state c.in-Ok-Some.fault c.requires
    (subst (λ (calls : List CallSite). IsFirstCycle calls (Some c.in-Ok-Some.fault)) c.as_slice.ensures (rw c.in-Ok-Some.field-0-is at c.in-Ok-Some.ensures))

pub returns-in-Ok-None-clause-accepts : goal.returns-in-Ok-None-clause-accepts
returns-in-Ok-None-clause-accepts c = accepted c.args.state c.finish.result c.requires
    (subst (λ (calls : List CallSite). IsFirstCycle calls None) c.as_slice.ensures (rw c.in-Ok-None.field-0-is at c.in-Ok-None.ensures)) c.finish.ensures.program

pub returns-in-Ok-None-clause-refuses : goal.returns-in-Ok-None-clause-refuses
returns-in-Ok-None-clause-refuses c = lacking c.args.state c.finish.result (λ fault. fault ≢ faults.Memory) c.requires
    (subst (λ (calls : List CallSite). IsFirstCycle calls None) c.as_slice.ensures (rw c.in-Ok-None.field-0-is at c.in-Ok-None.ensures)) c.finish.ensures.fault
