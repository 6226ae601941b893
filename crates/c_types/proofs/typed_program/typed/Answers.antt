use Rattle.std.proofs.Common.{◌≡◌, ◌≢◌, subst, IfOk, IfErr}
use Rattle.c_tree.specs.declared.tree.Program.{Program}
use Rattle.c_typing.specs.declared.type_fault.TypeFault.{TypeFault}
use Rattle.c_typing.specs.declared.type_fault.TypeFault.TheVariants as faults
use Rattle.c_typing.specs.Programs.{IsTyped, IsFaulty}
use Rattle.c_answers.proofs.OneAnswer.{only_program, no_other_fault, only_fault, no_program}
use Rattle.c_types.proofs.Law.{sound_found, scoped_found}
use Rattle.c_types.proofs.typed_program.typed.Goals as goal

pub returns-in-Ok-clause-accepts : goal.returns-in-Ok-clause-accepts
returns-in-Ok-clause-accepts c = subst (λ s. IfOk c.answer.result (λ p. IsTyped s p)) c.in-Ok.ensures.is c.answer.ensures.accepts

pub returns-in-Ok-clause-refuses : goal.returns-in-Ok-clause-refuses
returns-in-Ok-clause-refuses c = subst (λ s. IfErr c.answer.result (λ fault. fault ≢ faults.Memory → IsFaulty s fault)) c.in-Ok.ensures.is c.answer.ensures.refuses

pub returns-in-Ok-clause-only : goal.returns-in-Ok-clause-only
returns-in-Ok-clause-only c = subst (λ s. IfOk c.answer.result (λ p. (other : Program) → IsTyped s other → other ≡ p)) c.in-Ok.ensures.is (only_program c.in-Ok.state c.answer.result c.answer.ensures.accepts)

pub returns-in-Ok-clause-no_fault : goal.returns-in-Ok-clause-no_fault
returns-in-Ok-clause-no_fault c = subst (λ s. IfOk c.answer.result (λ p. (fault : TypeFault) → IsFaulty s fault → ⊥)) c.in-Ok.ensures.is (no_other_fault c.in-Ok.state c.answer.result c.answer.ensures.accepts)

pub returns-in-Ok-clause-only_fault : goal.returns-in-Ok-clause-only_fault
returns-in-Ok-clause-only_fault c = subst (λ s. IfErr c.answer.result (λ fault. fault ≢ faults.Memory → (other : TypeFault) → IsFaulty s other → other ≡ fault)) c.in-Ok.ensures.is
    (only_fault c.in-Ok.state c.answer.result (λ fault. fault ≢ faults.Memory) c.answer.ensures.refuses)

pub returns-in-Ok-clause-no_program : goal.returns-in-Ok-clause-no_program
returns-in-Ok-clause-no_program c = subst (λ s. IfErr c.answer.result (λ fault. fault ≢ faults.Memory → (p : Program) → IsTyped s p → ⊥)) c.in-Ok.ensures.is
    (no_program c.in-Ok.state c.answer.result (λ fault. fault ≢ faults.Memory) c.answer.ensures.refuses)

pub returns-in-Ok-clause-sound : goal.returns-in-Ok-clause-sound
returns-in-Ok-clause-sound c = sound_found c.args.raw.now c.in-Ok.state c.answer.result c.requires.read c.in-Ok.ensures.is c.in-Ok.ensures.few c.answer.ensures.accepts

pub returns-in-Ok-clause-scoped : goal.returns-in-Ok-clause-scoped
returns-in-Ok-clause-scoped c = scoped_found c.args.raw.now c.in-Ok.state c.answer.result c.requires.read c.in-Ok.ensures.is c.in-Ok.ensures.few c.answer.ensures.accepts
